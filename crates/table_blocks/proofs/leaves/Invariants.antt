-- `leaves` goes along the edges out of a place by their links: the others would send nothing.
use Prim.Native.Nat.{◌+◌, ◌*◌, ◌≤◌, ◌<◌, ◌-◌}
use mathlib.Core.Path.{◌≡◌}
use Rattle.steps.specs.Steps.{edge_in}
use Rattle.flags.specs.Flags.{Grown}
use Rattle.table.specs.Moves.{leave_of}
use Rattle.table.specs.Reports.{told_leave}
use Rattle.table.proofs.Steps.{rest}
use Rattle.table.proofs.Kept.{Kept}
use Rattle.table_blocks.proofs.leaves.Given as goal

-- what is left to do, applied to the table and the report so far, is the whole
abbrev pub invariant-loop-i : goal.invariant-loop-i
invariant-loop-i l =
    record {
      low : l.i ≤ l.g.count;
      source : l.i < l.g.count → (edge_in l.g.edges l.i).from ≡ l.p;
      kept : Kept ((l.n + 1) * l.g.layout.row) l.initial.table l.table;
      moves : rest (λ j. leave_of l.g.layout l.g.weighing l.n l.p l.sent.clocks l.sent.worth (edge_in l.g.edges j)) l.i (l.g.count - l.i) l.table
          ≡ rest (λ j. leave_of l.g.layout l.g.weighing l.n l.p l.sent.clocks l.sent.worth (edge_in l.g.edges j)) l.initial.i (l.g.count - l.initial.i) l.initial.table;
      tells : rest (λ j. told_leave l.g.weighing l.tells l.n l.p l.sent.clocks l.sent.worth (edge_in l.g.edges j)) l.i (l.g.count - l.i) l.best
          ≡ rest (λ j. told_leave l.g.weighing l.tells l.n l.p l.sent.clocks l.sent.worth (edge_in l.g.edges j)) l.initial.i (l.g.count - l.initial.i) l.initial.best;
      grown : Grown l.g.layout l.table l.initial.flags l.flags;
    }

abbrev pub decreases-loop-i : goal.decreases-loop-i
decreases-loop-i l = l.g.count - l.i
