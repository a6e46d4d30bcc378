-- `wipe_blocks` goes block by block; those to come are as they were.
use Prim.Native.Nat.{◌*◌}
use mathlib.Core.Path.{◌≡◌}
use lib.ListN.{length}
use Rattle.table.specs.Moves.{marked}
use Rattle.table_tick.proofs.wipe_blocks.Given as goal

abbrev pub invariant-loop-i : goal.invariant-loop-i
invariant-loop-i l =
    (length l.table ≡ length l.initial.table) × (l.table ≡ marked l.initial.table l.from (l.i * l.size))
