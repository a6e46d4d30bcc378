-- `leave` goes by the step into the block that the edge leads to, and notes what a run may end with; nothing is done where
-- the edge cannot be taken.
use borrow.Author.Rules.{rules}
use Prim.Native.Nat.{ℕ, ◌+◌, ◌<◌}
use native.Mathlib.Omega.{arith}
use mathlib.Core.Path.{◌≡◌, refl, sym, ap, ◌∙◌}
use mathlib.Core.Bool.{true, false}
use mathlib.Core.List.{List}
use lib.ListN.{length, get_or}
use lib.IntN.{ℤ}
use mir.Syntax.{w64}
use mir.Val.{to_z, of_z}
use mir.Facts.{to_z-of_z}
use Rattle.pattern.specs.Clocks.{Clocks, guards_hold, after_resets}
use Rattle.steps.specs.Steps.{edge_in, step_in, goes_in, after_in}
use Rattle.cells.specs.Index.{Placed, Within, block_at, code_of}
use Rattle.cells.proofs.Digits.{reset-within}
use Rattle.flags.proofs.Flags.{grown-refl}
use Rattle.table.specs.declared.fixed.Ground.{Ground}
use Rattle.table.specs.Asks.{Moving}
use Rattle.table.proofs.Steps.{small-clocks, next-in, code_lt, moved-is, moved_no}
use Rattle.table.proofs.Told.{told_move_lem}
use Rattle.table.proofs.Flags.{entered-start, flagged-moved}
use Rattle.table.proofs.leave.Goals as goal

-- what is known of edge i, of its step, and of where it leads
record Along (g : Ground) (n i : ℕ) (cs : Clocks) : Type 0 where
  leads : (step_in g.steps i).to ≡ (edge_in g.edges i).to
  goes : goes_in (step_in g.steps i) cs ≡ guards_hold cs (edge_in g.edges i)
  after : after_in (step_in g.steps i) cs ≡ after_resets (edge_in g.edges i) cs
  within : Within g.layout.radices (after_in (step_in g.steps i) cs)
  placed : Placed g.layout (n + 1) 0 (step_in g.steps i).to

along : {t : List ℤ} (g : Ground) (n i : ℕ) (cs : Clocks) → length cs ≡ 4 → Moving t g.layout n cs → i < g.count → Along g n i cs
along g n i cs four m low =
    let s = g.stepped.at i low in
    let a = s.after cs four in
    let h = m.low in
    let p = g.edged.tos i low in
    record {
      leads = s.leads;
      goes = s.goes cs (small-clocks g.layout cs g.laid m.within);
      after = a;
      within = rw a (reset-within g.layout.radices (edge_in g.edges i) cs m.within);
      placed = record { laid = g.laid; low = omega arith; stages = omega arith; place = rw s.leads p };
    }

pub block_at-to-requires : goal.block_at-to-requires
block_at-to-requires c =
    let a = c.args in
    let four : length a.sent.clocks ≡ 4 = omega arith in
    (along a.g.now a.n a.i a.sent.clocks four c.requires.0 c.requires.1).placed

pub code-cell-requires : goal.code-cell-requires
code-cell-requires c =
    let a = c.args in
    let four : length a.sent.clocks ≡ 4 = omega arith in
    let h = along a.g.now a.n a.i a.sent.clocks four c.requires.0 c.requires.1 in
    rw c.after.ensures h.within

-- the cell lies in the table
inside : {t : List ℤ} (g : Ground) (n i to cell : ℕ) (cs d : Clocks) → length cs ≡ 4 → Moving t g.layout n cs → i < g.count → to ≡ block_at g.layout (n + 1) 0 (step_in g.steps i).to → d ≡ after_in (step_in g.steps i) cs → cell ≡ code_of g.layout.radices d → to + cell < length t
inside g n i to cell cs d four m low at e code =
    let h = along g n i cs four m low in
    let p = h.placed.place in
    let b = next-in g.laid m at (omega arith) p in
    let k = code_lt g.layout d cell g.laid (rw e h.within) code in
    omega arith

pub overflow_add-to : goal.overflow_add-to
overflow_add-to c =
    let a = c.args in
    let four : length a.sent.clocks ≡ 4 = omega arith in
    let h = inside a.g.now a.n a.i _ _ a.sent.clocks _ four c.requires.0 c.requires.1 c.block_at-to.ensures c.after.ensures c.code-cell.ensures in
    omega (arith, c.well_formed.0.0)

pub offer-requires : goal.offer-requires
offer-requires c =
    let a = c.args in
    let four : length a.sent.clocks ≡ 4 = omega arith in
    inside a.g.now a.n a.i _ _ a.sent.clocks _ four c.requires.0 c.requires.1 c.block_at-to.ensures c.after.ensures c.code-cell.ensures

pub raise-requires : goal.raise-requires
raise-requires c =
    let a = c.args in
    let four : length a.sent.clocks ≡ 4 = omega arith in
    let h = along a.g.now a.n a.i a.sent.clocks four c.requires.0 c.requires.1 in
    let p = h.placed.place in
    let low = c.requires.0.low in
    let few = a.g.now.laid.few in
    let long = c.requires.2.long in
    (omega arith, omega arith)

pub bounds-tells-step : goal.bounds-tells-step
bounds-tells-step c =
    let a = c.args in
    let four : length a.sent.clocks ≡ 4 = omega arith in
    let h = along a.g.now a.n a.i a.sent.clocks four c.requires.0 c.requires.1 in
    let p = h.placed.place in
    let few = a.g.now.laid.few in
    omega arith

pub returns-then-not-goes : goal.returns-then-not-goes
returns-then-not-goes c =
    let a = c.args in
    let g = a.g.now in
    let cs = a.sent.clocks in
    let e = edge_in g.edges a.i in
    let four : length cs ≡ 4 = omega arith in
    let h = along g a.n a.i cs four c.requires.0 c.requires.1 in
    let no : guards_hold cs e ≡ false = sym h.goes ∙ sym c.goes.ensures ∙ c.if-not-goes.true in
    record {
      value = told_move_lem g.weighing a.tells.now a.n cs a.sent.worth e a.r a.r false _ (sym no) refl refl;
      table_after = moved_no g.layout g.weighing e _ cs a.sent.worth a.table.now no;
      grown = grown-refl c.requires.2;
    }

pub returns : goal.returns
returns c =
    let a = c.args in
    let g = a.g.now in
    let cs = a.sent.clocks in
    let x = a.sent.worth in
    let e = edge_in g.edges a.i in
    let four : length cs ≡ 4 = omega arith in
    let m = c.requires.0 in
    let low = m.low in
    let place = g.edged.tos a.i c.requires.1 in
    let h = along g a.n a.i cs four m c.requires.1 in
    let q : to_z w64 (of_z w64 x) ≡ x = to_z-of_z {w = w64} {z = x} (record { sfits = search rules }) in
    let yes : guards_hold cs e ≡ true = sym h.goes ∙ sym c.goes.ensures ∙ c.if-not-goes.false in
    let end = h.leads in
    let to = rw end at c.block_at-to.ensures in
    let u = moved-is g.layout g.weighing e _ cs _ x _ a.table.now _ yes (c.after.ensures ∙ h.after) c.code-cell.ensures (rw q at c.offer.ensures) in
    let t = rw to at u in
    record {
      value = told_move_lem g.weighing a.tells.now a.n cs x e a.r _ true _ (sym yes) (ap (λ (y : ℕ). get_or a.tells.now y false) end) (rw q at c.note_if.ensures);
      table_after = t;
      grown = flagged-moved g.layout g.laid g.weighing e (a.n + 1) e.to _ cs x a.table.now (omega arith) (entered-start g.layout (a.n + 1) e.to) m.within a.flags.now _ _ (omega arith) c.requires.2 t (rw (yes, ← end) c.raise.ensures);
    }
