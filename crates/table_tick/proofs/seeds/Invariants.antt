-- `seeds` goes place by place.
use mathlib.Core.Path.{◌≡◌}
use lib.ListN.{length}
use Rattle.table.specs.Moves.{starts_of}
use Rattle.table_tick.proofs.seeds.Given as goal

abbrev pub invariant-loop-p : goal.invariant-loop-p
invariant-loop-p l =
    (length l.table ≡ length l.initial.table) × (l.table ≡ starts_of l.size l.worth l.fn.starts l.p l.initial.table)
