use native.Mathlib.Omega.{arith}
use mathlib.Core.Path.{◌≡◌, ap}
use Rattle.table.specs.Calls.{told_in}
use Rattle.feed_ticks.specs.Ticks.{length_of}
use Rattle.feed_ticks.proofs.ReportLength.{report-low}
use Rattle.feed_ticks.proofs.tell.Goals as goal

pub overflow_cast-score : goal.overflow_cast-score
overflow_cast-score c =
    let a = c.args in
    let g = a.g.now in
    let l = report-low g.layout g.weighing a.v.now g.edges g.count g.ends g.low a.first.now in
    let e : c.in-Some.r.length ≡ length_of (told_in g a.v.now a.first.now) = ap length_of c.in-Some.ensures.value in
    let short = g.laid.short in
    omega arith
