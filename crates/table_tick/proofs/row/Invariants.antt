-- `row` goes place by place.
use Prim.Native.Nat.{◌+◌, ◌*◌}
use mathlib.Core.Path.{◌≡◌}
use Rattle.table.specs.Moves.{places_of}
use Rattle.flags.specs.Flags.{Grown}
use Rattle.table.specs.Reports.{told_places}
use Rattle.table.proofs.Kept.{Kept}
use Rattle.table_tick.proofs.row.Given as goal

abbrev pub invariant-loop-p : goal.invariant-loop-p
invariant-loop-p l =
    record {
      kept : Kept ((l.n + 1) * l.g.layout.row) l.initial.table l.table;
      moved : l.table ≡ places_of l.g.layout l.g.weighing l.v l.g.edges l.g.count l.n l.p l.initial.table;
      told : l.best ≡ told_places l.g.layout l.g.weighing l.v l.g.edges l.g.count l.tells l.n l.p l.initial.table l.initial.best;
      grown : Grown l.g.layout l.table l.initial.flags l.flags;
    }
