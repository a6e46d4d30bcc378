-- `visit` lets a worth stay, and says what is to be sent on.
use borrow.Author.Rules.{rules}
use Prim.Native.Nat.{ℕ, ◌+◌, ◌<◌}
use native.Mathlib.Omega.{arith}
use mathlib.Core.Path.{◌≡◌, refl, sym}
use mathlib.Core.List.{List}
use lib.ListN.{length}
use lib.IntN.{ℤ}
use mir.Syntax.{w64}
use mir.Val.{to_z, of_z}
use mir.Facts.{to_z-of_z}
use Rattle.weighting.proofs.Weightings.{weighting_of}
use Rattle.pattern.specs.Clocks.{Clocks}
use Rattle.cells.specs.Index.{Placed, block_at, code_of, ticked}
use Rattle.table.specs.declared.Block.{Block}
use Rattle.table.specs.declared.fixed.Ground.{Ground}
use Rattle.table.specs.Asks.{Staying}
use Rattle.cells.proofs.Digits.{ticked-within, ticked-long}
use Rattle.cells.proofs.Blocks.{block_in}
use Rattle.table.proofs.Steps.{grown-fits, code_lt, still-goes, still-resets, moved-is, stay-is, sent_is}
use Rattle.table.proofs.visit.Goals as goal

-- What is promised stands first, so that a wrong body is refused there (decision 64).
pub returns : goal.returns
returns c =
    let st = c in
    let a = st.args in
    let g = a.g.now in
    let four : length a.clocks ≡ 4 = omega arith in
    let x = c.combine-worth.result in
    let q : to_z w64 (of_z w64 a.b.gain) ≡ a.b.gain = to_z-of_z {w = w64} {z = a.b.gain} (record { sfits = search rules }) in
    let p = to_z-of_z st.ranges.worth in
    let f : x ≡ (weighting_of g.weighing).combine a.worth a.b.gain = simp (p, q) at c.combine-worth.ensures in
    let k : to_z w64 (of_z w64 x) ≡ x = to_z-of_z {w = w64} {z = x} (record { sfits = c.combine-worth.type_inv }) in
    let e = c.tick_clocks-clocks.ensures in
    let to = c.block_at-to.ensures in
    let resets = sym (still-resets a.b.place c.tick_clocks-clocks.result (rw e (ticked-long g.layout a.clocks g.laid four))) in
    let m = moved-is g.layout g.weighing _ _ c.tick_clocks-clocks.result _ x _ a.table.now _ (still-goes a.b.place c.tick_clocks-clocks.result) resets c.code-cell.ensures (rw k at c.offer.ensures) in
    record {
      value = sent_is g.layout g.weighing a.b.gain a.b.len a.b.place a.clocks _ a.worth x _ e f k;
      table_after = stay-is g.layout g.weighing a.b.gain a.b.len a.b.place a.clocks a.worth a.table.now _ x _ _ _ e f refl to m;
    }

-- the cell lies in the table
inside : {t : List ℤ} {v : ℤ} (g : Ground) (b : Block) (to cell : ℕ) (cs d : Clocks) → Staying t g.layout b v → to ≡ block_at g.layout (b.len + 1) 1 b.place → d ≡ ticked g.layout.radices cs → cell ≡ code_of g.layout.radices d → to + cell < length t
inside g b to cell cs d h at e code =
    let low = h.low in
    let placed : Placed g.layout (b.len + 1) 1 b.place = record { laid = g.laid; low = omega arith; stages = omega arith; place = h.place } in
    let i = block_in g.layout (b.len + 1) 1 b.place placed in
    let x = h.inside in
    let k = code_lt g.layout d cell g.laid (rw e (ticked-within g.layout cs g.laid)) code in
    omega arith

pub combine-worth-requires : goal.combine-worth-requires
combine-worth-requires c =
    let g = c.args.b.gain in
    let q : to_z w64 (of_z w64 g) ≡ g = to_z-of_z {w = w64} {z = g} (record { sfits = search rules }) in
    let p = to_z-of_z c.ranges.worth in
    simp (p, q) (grown-fits c.args.g.now.weighing c.args.worth c.args.b.gain c.requires.worth c.requires.gain)

pub code-cell-requires : goal.code-cell-requires
code-cell-requires c =
    let e = c.tick_clocks-clocks.ensures in
    let g = c.args.g.now in
    rw e (ticked-within g.layout c.args.clocks g.laid)

pub overflow_add-to : goal.overflow_add-to
overflow_add-to c =
    let h = inside c.args.g.now c.args.b _ _ c.args.clocks _ c.requires c.block_at-to.ensures c.tick_clocks-clocks.ensures c.code-cell.ensures in
    omega (arith, c.well_formed.0.0)

pub offer-requires : goal.offer-requires
offer-requires c =
    inside c.args.g.now c.args.b _ _ c.args.clocks _ c.requires c.block_at-to.ensures c.tick_clocks-clocks.ensures c.code-cell.ensures
