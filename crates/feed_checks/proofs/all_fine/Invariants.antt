-- The cells so far.
use mathlib.Core.Path.{◌≡◌}
use lib.ListN.{take}
use Rattle.pattern.specs.Slots.{all}
use Rattle.monitor.specs.Feed.{cell_fine}
use Rattle.feed_checks.proofs.all_fine.Given as goal

abbrev pub invariant-loop-cell : goal.invariant-loop-cell
invariant-loop-cell l = l.fine ≡ all cell_fine (take l.cell-index l.cells)
