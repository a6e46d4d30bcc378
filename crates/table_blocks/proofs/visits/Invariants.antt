-- `visits` goes through the occupied cells of a block, with the clocks of each. What is written lies after the block, so the
-- cells still to visit are as they were.
use Prim.Native.Nat.{◌+◌, ◌*◌, ◌≤◌, ◌-◌}
use mathlib.Core.Path.{◌≡◌}
use Rattle.cells.specs.Index.{clocks_at}
use Rattle.flags.specs.Flags.{Grown}
use Rattle.table.specs.Moves.{visits_of}
use Rattle.table.specs.Reports.{told_visits}
use Rattle.table.proofs.Kept.{Kept}
use Rattle.table_blocks.proofs.Spots.{cell_of_next, Found}
use Rattle.table_blocks.proofs.visits.Given as goal

abbrev pub invariant-loop-next : goal.invariant-loop-next
invariant-loop-next l =
    record {
      found : Found l.table l.b.start l.g.layout.block l.next;
      kept : Kept ((l.b.len + 1) * l.g.layout.row) l.initial.table l.table;
      past : l.last ≤ cell_of_next l.g.layout.block l.next;
      clocks_are : l.clocks ≡ clocks_at l.g.layout.radices l.last;
      moved : l.table ≡ visits_of l.g.layout l.g.weighing l.g.edges l.g.count l.b.gain l.b.len l.b.place l.b.start (cell_of_next l.g.layout.block l.next) l.initial.table;
      told : l.best ≡ told_visits l.g.layout l.g.weighing l.g.edges l.g.count l.tells l.b.gain l.b.len l.b.place l.b.start (cell_of_next l.g.layout.block l.next) l.initial.table l.initial.best;
      grown : Grown l.g.layout l.table l.initial.flags l.flags;
    }

abbrev pub decreases-loop-next : goal.decreases-loop-next
decreases-loop-next l = l.g.layout.block - cell_of_next l.g.layout.block l.next
