-- `occupied` passes over marks.
use Prim.Native.Nat.{ℕ, ◌+◌, ◌≤◌, ◌<◌}
use mathlib.Core.Path.{◌≡◌}
use Rattle.weighting.specs.Cell.{mark}
use Rattle.table.specs.Moves.{cell_at}
use Rattle.table_blocks.proofs.occupied.Given as goal

abbrev pub invariant-loop-cell : goal.invariant-loop-cell
invariant-loop-cell l = (j : ℕ) → j < l.cell → l.k ≤ j → cell_at l.table (l.at + j) ≡ mark
