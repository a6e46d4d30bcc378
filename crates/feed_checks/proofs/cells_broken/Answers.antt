-- The loop has looked at the first n rows.
use native.Mathlib.Omega.{arith}
use native.Mathlib.Nat.{zero-add}
use mathlib.Core.Path.{sym, ap}
use Rattle.cells.specs.declared.Layout.{Layout}
use Prim.Native.Nat.{◌*◌}
use Rattle.monitor.specs.Feed.{cell_fine}
use Rattle.feed_checks.proofs.Looks.{part-more}
use Rattle.feed_checks.proofs.Flagging.{rows_more}
use Rattle.feed_checks.proofs.cells_broken.Goals as goal

pub loop-n-preserved : goal.loop-n-preserved
loop-n-preserved c =
    let l = c.loop-n in
    let a = c.args in
    let t = a.table.now in
    let r = c.look_row-r in
    let high = ap (λ (s : Layout). s.high) c.l.view_is in
    let more = rw (zero-add (l.n * a.l.row)) at (part-more cell_fine t 0 l.n a.l.row) in (
      rw (l.invariant.0, r.ensures.fine_value) (sym more),
      rows_more a.l t l.flags l.n r.result.flags (let h = c.requires.1 in omega arith) l.invariant.1 r.ensures.row_flagged,
    )
