-- `clocks_at` takes the digits of k one by one, the last first.
use borrow.Author.Rules.{rules}
use Rattle.cells.specs.Index.{clocks_at}
use Rattle.cells.proofs.clocks_at.Goals as goal

pub returns : goal.returns
unfolding clocks_at
returns c = search rules
