-- Report by report.
use Rattle.std.proofs.Common.{◌-◌, ◌*◌, ◌≤◌, length}
use Rattle.std.specs.Iterator.Adapters.{zip_first, zip_second}
use Rattle.std.specs.Slice.Iter.{iter_rest}
use Rattle.best.proofs.Reports.{Left}
use Rattle.text_put.specs.Put.{Puts}
use Rattle.watch_text.specs.Shown.{rows_past}
use Rattle.watch_text.proofs.put_reports.Given as goal

abbrev pub invariant-loop-tick : goal.invariant-loop-tick
invariant-loop-tick l =
    let it = l.tick-iterator in
    let range = zip_first (zip_first it) in
    let rows = rows_past l.ticks l.scores l.lengths (range.start - l.ticks) in
    Left l.ticks l.count l.scores l.lengths range.start range.end (iter_rest (zip_second (zip_first it))) (iter_rest (zip_second it))
    × Puts l.initial.out l.out rows × (length rows ≤ 64 * (range.start - l.ticks))
