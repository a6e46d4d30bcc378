-- A report's length is no more than the greatest length.
use Prim.Native.Nat.{ℕ, ◌≤◌, ◌<◌}
use native.Mathlib.Omega.{arith}
use Rattle.std.specs.Prelude.{Option, Some, None}
use mathlib.Core.List.{List}
use mathlib.Core.Bool.{Bool, true, false, cond}
use lib.IntN.{ℤ}
use Rattle.weighting.specs.declared.Weighing.{Weighing}
use Rattle.weighting.proofs.Weightings.{weighting_of}
use Rattle.pattern.specs.declared.Edge.{Edge}
use Rattle.cells.specs.declared.Layout.{Layout}
use Rattle.table.specs.declared.View.{View}
use Rattle.table.specs.declared.report.Report.{Report}
use Rattle.table.specs.Reports.{noted, told_of}
use Rattle.table.proofs.Told.{told-keeps}
use Rattle.feed_ticks.specs.Ticks.{length_of}

noted-low : (w : Weighing) (high : ℕ) (r : Option Report) (v : ℤ) (n : ℕ) → 0 < n → n ≤ high → length_of r ≤ high → length_of (noted w r v n) ≤ high
unfolding noted
noted-low w high None v n _ h k = h
noted-low w high (Some r) v n _ h k = by ((weighting_of w).order.at_least v r.score)
  where
    by : (z : Bool) → length_of (cond z (Some (record { score = v; length = n })) (Some r)) ≤ high
    by true = h
    by false = k

pub report-low : (l : Layout) (w : Weighing) (v : View) (es : List Edge) (count : ℕ) (ends : List Bool) (low : ℕ) (t : List ℤ) → length_of (told_of l w v es count ends low t) ≤ l.high
report-low l w v es count ends low t =
    told-keeps (λ r. length_of r ≤ l.high) l w (noted-low w l.high) v es count ends low t (omega arith)
