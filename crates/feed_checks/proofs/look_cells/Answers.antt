-- The loop has looked at the first i cells of the row, each a block of its own.
use borrow.Author.Rules.{rules}
use native.Mathlib.Omega.{arith}
use native.Mathlib.Nat.{mul-one}
use mathlib.Core.Path.{◌≡◌, refl, sym, subst}
use mathlib.Core.Bool.{not}
use Prim.Native.Nat.{◌+◌, ◌*◌, ◌≤◌, ◌<◌}
use lib.IntN.{pos}
use mir.Syntax.{w64}
use mir.Val.{SFits}
use lib.ListN.{length, get_or}
use Rattle.integers.proofs.Casts.{read_back}
use Rattle.cells.proofs.Blocks.{row_inside}
use Rattle.monitor.specs.Feed.{cell_fine}
use Rattle.feed_checks.specs.Mark.{is_mark}
use Rattle.feed_checks.proofs.Looks.{one_cell, cell-more}
use Rattle.feed_checks.proofs.Marks.{mark-bits}
use Rattle.feed_checks.proofs.Flagging.{flagged-more}
use Rattle.cells.specs.declared.Layout.{Layout}
use Rattle.cells.specs.Layout.{cells_in, Laid}
use Rattle.feed_checks.proofs.look_cells.Goals as goal

-- the row has a cell for each flag
few : (l : Layout) → Laid l → l.block ≡ 1 → l.row ≤ 32
few l h one =
    let e : l.row ≡ 2 * l.places * 1 = rw one at h.row_is in
    omega (arith, e, h.few)

pub loop-i-preserved : goal.loop-i-preserved
loop-i-preserved c =
    let l = c.loop-i in
    let a = c.args in
    let t = a.table.now in
    let o = c.l.inside in
    let from = a.n * o.row in
    let s : Layout = record { high = o.high; places = o.places; radices = o.radices; block = o.block; row = o.row } in
    let v = get_or t (from + l.i) (pos 0) in
    let fits : SFits w64 v = record { sfits = search rules } in
    let asked = subst (λ (s : Layout). (cells_in s ≤ length t) × (a.n ≤ s.high) × (s.block ≡ 1)) (sym c.l.view_is) c.requires in
    let h : from + l.i < length t = omega (arith, row_inside s a.n asked.1, asked.0) in
    let one : l.i * 1 ≡ l.i = mul-one l.i in (
      rw (l.invariant.0, c.cell_fine-fine.ensures, read_back w64 v fits) (sym (cell-more cell_fine t from l.i h)),
      rw (c.with_bit-flags.ensures, mark-bits v fits) (flagged-more t from 1 l.i l.flags (not (is_mark v)) (omega arith) (rw (one, one_cell is_mark t (from + l.i) h) refl) l.invariant.1),
    )
