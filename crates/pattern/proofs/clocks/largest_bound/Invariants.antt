use Rattle.std.proofs.Common.{◌≡◌, take, max}
use Rattle.pattern.specs.Cells.{bounds_on, largest}
use Rattle.pattern.proofs.clocks.largest_bound.Given as goal

abbrev pub invariant-loop-g : goal.invariant-loop-g
invariant-loop-g l = l.found ≡ max l.most (largest (bounds_on l.clock (take l.g-index l.g-items)))
