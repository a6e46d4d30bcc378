-- The loop has looked at the first i cells of the row, each a block of its own.
use mathlib.Core.Path.{◌≡◌}
use lib.ListN.{take, drop}
use Rattle.pattern.specs.Slots.{all}
use Rattle.monitor.specs.Feed.{cell_fine}
use Rattle.feed_checks.proofs.Flagging.{FlaggedTo}
use Rattle.feed_checks.proofs.look_cells.Given as goal

abbrev pub invariant-loop-i : goal.invariant-loop-i
invariant-loop-i l = (l.fine ≡ all cell_fine (take l.i (drop l.from l.table))) × FlaggedTo l.table l.from 1 l.i l.flags
