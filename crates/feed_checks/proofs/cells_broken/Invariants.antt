-- The loop has looked at the first n rows.
use mathlib.Core.Path.{◌≡◌}
use Prim.Native.Nat.{ℕ, ◌*◌, ◌<◌}
use lib.ListN.{take, get_or}
use Rattle.pattern.specs.Slots.{all}
use Rattle.flags.specs.Flags.{RowFlagged}
use Rattle.monitor.specs.Feed.{cell_fine}
use Rattle.feed_checks.proofs.cells_broken.Given as goal

abbrev pub invariant-loop-n : goal.invariant-loop-n
invariant-loop-n l =
    (l.fine ≡ all cell_fine (take (l.n * l.l.row) l.table)) × ((m : ℕ) → m < l.n → RowFlagged l.l l.table (get_or l.flags m 0) m)
