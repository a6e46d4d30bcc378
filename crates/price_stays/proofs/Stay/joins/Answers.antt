-- `joins` compares the values of two neighbouring pieces.
use Rattle.std.proofs.Common.{◌∙◌}
use borrow.Author.Tests.{lt-ltb, le-ltb}
use Rattle.price_stays.specs.Walk.{joins_to, seen_at}
use Rattle.price_stays.proofs.Stay.joins.Goals as goal

pub returns-then-self-piece : goal.returns-then-self-piece
unfolding joins_to seen_at
returns-then-self-piece c = c.agree_in.ensures ∙ rw (c.sample.ensures, c.sample-then-self-piece.ensures, lt-ltb _ _ c.if-self-piece.true)

pub returns-else-self-piece : goal.returns-else-self-piece
unfolding joins_to seen_at
returns-else-self-piece c = rw (le-ltb _ _ c.if-self-piece.false)
