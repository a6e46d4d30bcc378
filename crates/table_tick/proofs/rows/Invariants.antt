-- `rows` goes from the longest row to the shortest: what is still to do, applied to the table so far, is the whole.
use Prim.Native.Nat.{◌*◌}
use mathlib.Core.Path.{◌≡◌}
use lib.ListN.{length}
use Rattle.flags.specs.Flags.{Flagged}
use Rattle.table.specs.Asks.{Bounded}
use Rattle.table.specs.Moves.{rows_of}
use Rattle.table.specs.Reports.{told_rows}
use Rattle.table_tick.proofs.rows.Given as goal

abbrev pub invariant-loop-n : goal.invariant-loop-n
invariant-loop-n l =
    record {
      long : length l.table ≡ length l.initial.table;
      moved : rows_of l.g.layout l.g.weighing l.v l.g.edges l.g.count l.n l.table ≡ rows_of l.g.layout l.g.weighing l.v l.g.edges l.g.count l.g.layout.high l.initial.table;
      bounded : Bounded l.table 0 (l.n * l.g.layout.row);
      told : told_rows l.g.layout l.g.weighing l.v l.g.edges l.g.count l.g.ends l.g.low l.n l.table l.best
          ≡ told_rows l.g.layout l.g.weighing l.v l.g.edges l.g.count l.g.ends l.g.low l.g.layout.high l.initial.table l.initial.best;
      flags_long : length l.flags ≡ length l.initial.flags;
      flagged : Flagged l.g.layout l.table l.flags;
    }
