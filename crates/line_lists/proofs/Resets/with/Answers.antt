-- One clock more.
use Rattle.std.proofs.Common.{refl}
use borrow.Author.Tests.{lt-ltb, le-ltb}
use Rattle.line_lists.specs.ResetList.{add_reset}
use Rattle.line_lists.proofs.Resets.with.Goals as goal

pub returns-then-n-lt4 : goal.returns-then-n-lt4
unfolding add_reset
returns-then-n-lt4 c = rw (lt-ltb c.args.clock 4 c.if-n-lt4.true, c.from.ensures) refl

pub returns-else-n-lt4 : goal.returns-else-n-lt4
unfolding add_reset
returns-else-n-lt4 c = rw (le-ltb c.args.clock 4 c.if-n-lt4.false, c.from.ensures) refl
