use borrow.Author.Tests.{lt-ltb, le-ltb}
use Rattle.pattern.specs.Cells.{radix_of}
use Rattle.pattern.proofs.clocks.radix.Goals as goal

pub returns-then-clock-p : goal.returns-then-clock-p
unfolding radix_of
returns-then-clock-p c = rw (c.from.ensures, c.ceiling.ensures, lt-ltb _ _ c.if-clock-p.true)

pub returns-else-clock-p : goal.returns-else-clock-p
unfolding radix_of
returns-else-clock-p c = rw (le-ltb _ _ c.if-clock-p.false)
