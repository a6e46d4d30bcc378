-- `advance` wipes row n + 1 and moves row n into it; a row without a flag moves nothing.
use Prim.Native.Nat.{◌+◌}
use native.Mathlib.Omega.{arith}
use mathlib.Core.Path.{◌≡◌, refl, sym}
use lib.ListN.{get_or}
use Rattle.flags.specs.Flags.{RowFlagged}
use Rattle.table.specs.Reports.{tells_at}
use Rattle.table.proofs.Steps.{clear_ready, row_is}
use Rattle.table.proofs.Told.{told-row}
use Rattle.table.proofs.Empty.{empty-row, empty-row-told}
use Rattle.table_tick.proofs.advance.Goals as goal

pub returns-then-flags-n-eq0 : goal.returns-then-flags-n-eq0
returns-then-flags-n-eq0 c =
    let a = c.args in
    let g = a.g.now in
    let v = a.v.now in
    let low = c.requires.1.low in
    let w = c.wipe_row.ensures in
    let z : get_or c.wipe_row.new.flags a.n 0 ≡ 0 = c.if-flags-n-eq0.true in
    let none : RowFlagged g.layout c.wipe_row.new.table 0 a.n = rw z at (w.flagged.rows a.n (omega arith)) in
    record {
      value = told-row g.layout g.weighing v g.edges g.count g.ends (tells_at g.ends g.low (a.n + 1)) g.low a.n a.table.now _ a.r a.r g.laid (omega arith) w.table_after refl (sym (empty-row-told g.layout g.weighing g.edges g.count _ v a.n none _ a.r));
      table_after = row_is g.layout g.weighing v g.edges g.count a.n a.table.now _ _ w.table_after (sym (empty-row g.layout g.weighing g.edges g.count _ v a.n none));
      flagged = w.flagged;
    }

pub row-requires : goal.row-requires
row-requires c =
    let w = c.wipe_row.ensures in
    (c.requires.0, clear_ready c.args.g.now.layout c.args.n c.args.table.now _ w.table_after c.requires.1, w.flagged)

pub returns : goal.returns
returns c =
    let a = c.args in
    let g = a.g.now in
    let v = a.v.now in
    let low = c.requires.1.low in
    let w = c.wipe_row.ensures in
    let r = c.row.ensures in
    record {
      value = told-row g.layout g.weighing v g.edges g.count g.ends _ g.low a.n a.table.now _ a.r _ g.laid (omega arith) w.table_after c.tells_at-tells.ensures r.value;
      table_after = row_is g.layout g.weighing v g.edges g.count a.n a.table.now _ _ w.table_after r.table_after;
      flagged = r.grown.flagged;
    }
