-- `rows` goes from the longest row to the shortest.
use Prim.Native.Nat.{◌+◌, ◌-◌, ◌*◌}
use native.Mathlib.Omega.{arith}
use Rattle.table.specs.declared.fixed.Ground.{Ground}
use Rattle.std.proofs.Common.{rules}
use mathlib.Core.Path.{◌≡◌, ◌∙◌, ap}
use Rattle.table.proofs.Kept.{Kept, row_kept}
use Rattle.table.proofs.Steps.{rows-ready, row-long, rows-bounded, rows_again, rows_end}
use Rattle.table.proofs.Told.{told_again, told-end}
use Rattle.table_tick.proofs.rows.Goals as goal

-- The check finds this alone; it stands here so that an edit of the rows' range is refused at the invariant.
pub loop-n-init : goal.loop-n-init
loop-n-init c = search rules

pub advance-best-requires : goal.advance-best-requires
advance-best-requires c =
    let l = c.loop-n in
    let g = c.args.g.now in
    let low = l.auto.n in
    let high = ap (λ (x : Ground). x.layout.high) c.g.view_is in
    (c.requires.0, rows-ready g.layout l.table l.n (rw l.invariant.long c.requires.1.inside) c.loop-n-test.true (omega arith) l.invariant.bounded, l.invariant.flagged)

pub loop-n-preserved : goal.loop-n-preserved
loop-n-preserved c =
    let l = c.loop-n in
    let a = c.args in
    let g = a.g.now in
    let w = g.weighing in
    let v = a.v.now in
    let some = c.loop-n-test.true in
    let low = l.auto.n in
    let high = ap (λ (x : Ground). x.layout.high) c.g.view_is in
    let e = c.advance-best.ensures.table_after in
    let up : l.n - 1 + 1 ≡ l.n = omega arith in
    let kept : Kept (l.n * g.layout.row) l.table c.advance-best.new.table = rw e (rw up at (row_kept g.layout w v g.edges g.count (l.n - 1) l.table)) in
    record {
      long = row-long g.layout w v g.edges g.count l.table _ l.n some e ∙ l.invariant.long;
      moved = rows_again g.layout w v g.edges g.count l.table _ l.n some e _ l.invariant.moved;
      bounded = rows-bounded g.layout w v g.edges g.count l.table _ l.n some e l.invariant.bounded;
      told = told_again g.layout w v g.edges g.count g.ends g.low l.n l.table _ l.best _ _ g.laid some (omega arith) kept c.advance-best.ensures.value l.invariant.told;
      flags_long = c.advance-best.auto.flags ∙ l.invariant.flags_long;
      flagged = c.advance-best.ensures.flagged;
    }

pub returns : goal.returns
returns c =
    let l = c.loop-n in
    let a = c.args in
    let g = a.g.now in
    let v = a.v.now in
    let z : l.n ≡ 0 = omega arith in
    record {
      value = told-end g.layout g.weighing v g.edges g.count g.ends g.low l.n l.table l.best _ z l.invariant.told;
      table_after = rows_end g.layout g.weighing v g.edges g.count l.n l.table _ z l.invariant.moved;
      flagged = l.invariant.flagged;
    }
