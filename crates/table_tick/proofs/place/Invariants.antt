-- `place` moves the cells just entered and then those staying; the row that it reads lies before the row that it writes.
use Prim.Native.Nat.{◌+◌, ◌*◌}
use mathlib.Core.Path.{◌≡◌}
use Rattle.flags.specs.Flags.{Grown}
use Rattle.table.specs.Moves.{each}
use Rattle.table.proofs.Kept.{Kept}
use Rattle.table.proofs.Steps.{stage_pass, stage_told}
use Rattle.table_tick.proofs.place.Given as goal

abbrev pub invariant-loop-stage : goal.invariant-loop-stage
invariant-loop-stage l =
    record {
      kept : Kept ((l.n + 1) * l.g.layout.row) l.initial.table l.table;
      moved : l.table ≡ each (stage_pass l.g.layout l.g.weighing l.g.edges l.g.count l.entered l.staying l.n l.p) l.stage l.initial.table;
      told : l.best ≡ each (stage_told l.g.layout l.g.weighing l.g.edges l.g.count l.entered l.staying l.n l.p l.tells l.initial.table) l.stage l.initial.best;
      grown : Grown l.g.layout l.table l.initial.flags l.flags;
    }
