-- Blocks of one cell are looked at by `look_cells`. The loop has looked at the first i blocks of the row.
use mathlib.Core.Path.{◌≡◌}
use Prim.Native.Nat.{◌*◌}
use lib.ListN.{take, drop}
use Rattle.pattern.specs.Slots.{all}
use Rattle.monitor.specs.Feed.{cell_fine}
use Rattle.feed_checks.proofs.Flagging.{FlaggedTo}
use Rattle.feed_checks.proofs.look_row.Given as goal

abbrev pub invariant-loop-i : goal.invariant-loop-i
invariant-loop-i l =
    (l.fine ≡ all cell_fine (take (l.i * l.size) (drop l.from l.table))) × FlaggedTo l.table l.from l.size l.i l.flags
