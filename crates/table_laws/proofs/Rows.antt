-- A whole tick and an opening, cell by cell: row 0, the rows after it, and the cells past all rows.
use Prim.Native.Nat.{ℕ, zero, suc, ◌+◌, ◌-◌, ◌*◌, ◌≤◌, ◌<◌}
use native.Mathlib.Omega.{arith}
use native.Mathlib.Nat.{suc-mul, zero-mul, mul-le-mul_right}
use mathlib.Core.Path.{◌≡◌, refl, sym, ap, ◌∙◌}
use mathlib.Core.Bool.{Bool, true, false, cond}
use mathlib.Core.Logic.{inl, inr, ⊎_elim}
use mathlib.Core.Option.{Option, none, some}
use mathlib.Core.List.{List}
use borrow.Author.Tests.{eqb-true, eqb-false, ltb-true, ltb-false}
use lib.Dec.{eqb, ltb}
use lib.ListN.{length, get_or, set}
use lib.Seq.{get_or-set_same, get_or-set_other, set_out}
use lib.IntN.{ℤ, pos, nat_abs}
use Rattle.weighting.specs.declared.Weighing.{Weighing}
use Rattle.weighting.specs.Order.{IsBest}
use Rattle.weighting.proofs.Weightings.{weighting_of}
use Rattle.weighting.specs.Cell.{mark, cell_of, held_in}
use Rattle.weighting.proofs.Cell.{cell_of-held_in}
use Rattle.weighting.proofs.Sizes.{unit_size, combine-size}
use Rattle.pattern.specs.declared.Edge.{Edge}
use Rattle.cells.specs.declared.Layout.{Layout}
use Rattle.cells.specs.Layout.{Laid, cells_in}
use Rattle.cells.specs.Index.{block_at}
use Rattle.cells.proofs.Blocks.{row_next, row_first, in_table}
use Rattle.table.specs.declared.View.{View}
use Rattle.steps.specs.Steps.{edge_in}
use Rattle.table.specs.Moves.{cell_at, cleared, gain_at, still, rows_of, starts_of, begun, tick_of, open_of}
use Rattle.table.specs.Asks.{Sized, Known, Whole}
use Rattle.table.proofs.Kept.{marked-long, rows_long, starts-long}
use Rattle.table.proofs.Steps.{sized_more, first_fits, whole-rows}
use Rattle.table_laws.specs.Offers.{stage_of, gains_of, Follows, RowOffers}
use Rattle.table_laws.specs.Claims.{TickKeepsWhole, TickLeavesFurther, OpenIsWhole, OpenLeavesFurther}
use Rattle.table_laws.proofs.Best.{not-held, marked-at, above-marked, above_rows, rows_best}

-- ---- the empty runs

-- a start place's first cell holds the unit
pub starts-begun : (size : ℕ) (unit : ℤ) (starts : List Bool) (p : ℕ) (t : List ℤ) → 0 < size → p * size ≤ length t → (q : ℕ) → q < p → get_or starts q false ≡ true → cell_at (starts_of size unit starts p t) (q * size) ≡ unit
unfolding starts_of
starts-begun size unit starts zero t one long q low e = absurd (omega arith)
starts-begun size unit starts (suc p) t one long q low e =
    by (eqb q p) refl (get_or starts p false) refl (λ z. starts-begun size unit starts p t one (let s = suc-mul p size in omega arith) q z e)
  where
    u : List ℤ
    u = starts_of size unit starts p t

    by : (b : Bool) → eqb q p ≡ b → (c : Bool) → get_or starts p false ≡ c → (q < p → cell_at u (q * size) ≡ unit) → cell_at (cond c (set u (p * size) unit) u) (q * size) ≡ unit
    by true h true f before =
        let z : q ≡ p = eqb-true q p h in
        let s = suc-mul p size in
        let n = starts-long size unit starts p t in
        rw z (get_or-set_same u (p * size) unit (pos 0) (omega arith))
    by true h false f before =
        let z : q ≡ p = eqb-true q p h in
        let y : ◌≡◌ {A = Bool} true false = sym e ∙ ap (λ (n : ℕ). get_or starts n false) z ∙ f in
        let n : ◌≡◌ {A = ℕ} 0 1 = cc in
        absurd (omega arith)
    by false h true f before =
        let n = eqb-false q p h in
        let l : q < p = omega (arith, n) in
        let m = mul-le-mul_right {m = suc q} {n = p} size l in
        let s = suc-mul q size in
        get_or-set_other u (p * size) (q * size) unit (pos 0) (λ z. omega arith) ∙ before l
    by false h false f before = before (omega (arith, eqb-false q p h))

-- any other cell is as it was
pub starts_other : (size : ℕ) (unit : ℤ) (starts : List Bool) (p : ℕ) (t : List ℤ) (i : ℕ) → ((q : ℕ) → q < p → get_or starts q false ≡ true → i ≡ q * size → ⊥) → cell_at (starts_of size unit starts p t) i ≡ cell_at t i
unfolding starts_of
starts_other size unit starts zero t i h = refl
starts_other size unit starts (suc p) t i h = by (get_or starts p false) refl (starts_other size unit starts p t i (λ q z. h q (omega arith)))
  where
    u : List ℤ
    u = starts_of size unit starts p t

    by : (c : Bool) → get_or starts p false ≡ c → cell_at u i ≡ cell_at t i → cell_at (cond c (set u (p * size) unit) u) i ≡ cell_at t i
    by true f before = get_or-set_other u (p * size) i unit (pos 0) (h p (omega arith) f) ∙ before
    by false f before = before

-- ---- past row 0

starts-past : (l : Layout) (w : Weighing) (starts : List Bool) (t : List ℤ) (i : ℕ) → Laid l → l.row ≤ i → cell_at (begun l w starts t) i ≡ cell_at t i
starts-past l w starts t i h low =
    starts_other l.block (weighting_of w).unit starts l.places t i (λ q z e f. let y = first_fits l q h z in omega arith)

cleared-past : (t : List ℤ) (n i : ℕ) → n ≤ i → cell_at (cleared t 0 n) i ≡ cell_at t i
cleared-past t n i low = let e : n - 0 ≡ n = omega arith in rw e ((above-marked n t 0 n (omega arith)).same i low)

pub tick-past : (l : Layout) (w : Weighing) (v : View) (es : List Edge) (count : ℕ) (starts : List Bool) (t : List ℤ) (i : ℕ) → Laid l → l.row ≤ i → cell_at (tick_of l w v es count starts t) i ≡ cell_at (rows_of l w v es count l.high t) i
unfolding tick_of
tick-past l w v es count starts t i h low =
    starts-past l w starts (cleared (rows_of l w v es count l.high t) 0 l.row) i h low ∙ cleared-past (rows_of l w v es count l.high t) l.row i low

tick-long : (l : Layout) (w : Weighing) (v : View) (es : List Edge) (count : ℕ) (starts : List Bool) (t : List ℤ) → length (tick_of l w v es count starts t) ≡ length t
unfolding tick_of
tick-long l w v es count starts t =
    starts-long l.block (weighting_of w).unit starts l.places _ ∙ marked-long (rows_of l w v es count l.high t) 0 _ ∙ rows_long l w v es count l.high t

open_long : (l : Layout) (w : Weighing) (starts : List Bool) (t : List ℤ) → length (open_of l w starts t) ≡ length t
unfolding open_of
open_long l w starts t = starts-long l.block (weighting_of w).unit starts l.places _ ∙ marked-long t 0 _

pub tick-leaves-further : (l : Layout) (w : Weighing) (v : View) (es : List Edge) (count : ℕ) (starts ends : List Bool) → TickLeavesFurther l w v es count starts ends
tick-leaves-further l w v es count starts ends t a = (
  tick-long l w v es count starts t,
  λ i low.
      let f = row_next l.high l.row in
      let g = row_first l in
      tick-past l w v es count starts t i a.known.laid (omega arith)
      ∙ (above_rows l w v es count a.known l.high t (omega arith)).same i (omega arith),
)

pub open_leaves-further : (l : Layout) (w : Weighing) (starts : List Bool) → OpenLeavesFurther l w starts
unfolding open_of
open_leaves-further l w starts t a = (
  open_long l w starts t,
  λ i low.
      let g = row_first l in
      starts-past l w starts (cleared t 0 (cells_in l)) i a.laid (omega arith) ∙ cleared-past t (cells_in l) i low,
)

-- ---- sizes

pub held-is : {z x : ℤ} → held_in z ≡ some x → z ≡ x
held-is {z} {x} h = sym (cell_of-held_in z) ∙ ap cell_of h

held-size : {k : ℕ} {z x : ℤ} → Sized k z → held_in z ≡ some x → nat_abs x ≤ k
held-size (inl e) h = absurd (not-held e h)
held-size {k} {z} {x} (inr s) h = rw (held-is h) at s

none-mark : (z : ℤ) → held_in z ≡ none → z ≡ mark
none-mark z h = sym (cell_of-held_in z) ∙ ap cell_of h

set_sized : (k : ℕ) (t : List ℤ) (j : ℕ) (v : ℤ) (i : ℕ) → Sized k v → Sized k (cell_at t i) → Sized k (cell_at (set t j v) i)
set_sized k t j v i a b = by (eqb i j) refl (ltb j (length t)) refl
  where
    by : (x : Bool) → eqb i j ≡ x → (y : Bool) → ltb j (length t) ≡ y → Sized k (cell_at (set t j v) i)
    by false q y r = rw (get_or-set_other t j i v (pos 0) (eqb-false i j q)) b
    by true q true r =
        let z : i ≡ j = eqb-true i j q in
        rw (z, get_or-set_same t j v (pos 0) (ltb-true j (length t) r)) a
    by true q false r = rw (set_out t j v (ltb-false j (length t) r)) b

starts_sized : (k size : ℕ) (unit : ℤ) (starts : List Bool) (p : ℕ) (t : List ℤ) (i : ℕ) → Sized k unit → Sized k (cell_at t i) → Sized k (cell_at (starts_of size unit starts p t) i)
unfolding starts_of
starts_sized k size unit starts zero t i a b = b
starts_sized k size unit starts (suc p) t i a b = by (get_or starts p false) (starts_sized k size unit starts p t i a b)
  where
    by : (x : Bool) → Sized k (cell_at (starts_of size unit starts p t) i) → Sized k (cell_at (cond x (set (starts_of size unit starts p t) (p * size) unit) (starts_of size unit starts p t)) i)
    by true c = set_sized k (starts_of size unit starts p t) (p * size) unit i a c
    by false c = c

-- a cell that was a mark holds the unit or the mark
begun_sized : (k : ℕ) (l : Layout) (w : Weighing) (starts : List Bool) (t : List ℤ) (i : ℕ) → 2000001 ≤ k → cell_at t i ≡ mark → Sized k (cell_at (begun l w starts t) i)
begun_sized k l w starts t i h e =
    starts_sized k l.block (weighting_of w).unit starts l.places t i (inr (omega (arith, unit_size w))) (inl e)

-- a cell of row n
in_row : (l : Layout) (n : ℕ) (b : Bool) (p c : ℕ) → Laid l → n ≤ l.high → p < l.places → c < l.block → (i : ℕ) × (i < l.row) × (block_at l n (stage_of b) p + c ≡ n * l.row + i)
unfolding block_at
in_row l n b p c laid low h z = by b
  where
    at : (stage : ℕ) → stage ≤ 1 → (i : ℕ) × (i < l.row) × (n * l.row + (stage * l.places + p) * l.block + c ≡ n * l.row + i)
    at stage st =
        let y = (in_table l n stage p (record { laid = laid; low = low; stages = st; place = h })).fits in
        ((stage * l.places + p) * l.block + c, omega arith, omega arith)

    by : (b : Bool) → (i : ℕ) × (i < l.row) × (n * l.row + (stage_of b * l.places + p) * l.block + c ≡ n * l.row + i)
    by true = at 0 (omega arith)
    by false = at 1 (omega arith)

module _ (l : Layout) (w : Weighing) (v : View) (es : List Edge) (count : ℕ) (k : Known l v es count) (t : List ℤ) (whole : Whole t l) where
  gain_sized : (b : Bool) (p : ℕ) → p < l.places → Sized 8000000 (gain_at (gains_of v b) p)
  gain_sized true p h = k.entered p h
  gain_sized false p h = k.staying p h

  follows-size : (e : Edge) (n stage j : ℕ) (x : ℤ) → n ≤ l.high → e.from < l.places → Follows l w v e n stage t j x → nat_abs x ≤ 32760000000 + n * 8000000 + 8000000
  follows-size e n stage j x low h f =
      let m = f.passes.moves in
      let a = in_row l n f.from e.from f.passes.cell k.laid low h f.passes.low in
      let s : Sized (32760000000 + n * 8000000) (cell_at t (block_at l n (stage_of f.from) e.from + f.passes.cell)) = rw a.2 (whole.bounded n a.0 low a.1) in
      let y = held-size s m.holds in
      let z = held-size (gain_sized f.from e.from h) m.gains in
      let c = combine-size w m.had m.gain in
      rw m.is (omega arith)

  pub row-size : (n j : ℕ) (x : ℤ) → n ≤ l.high → RowOffers l w v es count n t j x → nat_abs x ≤ 32760000000 + n * 8000000 + 8000000
  row-size n j x low =
      ⊎_elim (λ g. follows-size (still g.which) n 1 j x low g.low g.follows)
      (λ g. follows-size (edge_in es g.which) n 0 j x low (k.froms g.which g.low) g.follows)

  best_sized : (n j : ℕ) (z : ℤ) (o : Option ℤ) → n ≤ l.high → held_in z ≡ o → IsBest (weighting_of w).order (RowOffers l w v es count n t j) o → Sized (32760000000 + n * 8000000 + 8000000) z
  best_sized n j z none low e b = inl (none-mark z e)
  best_sized n j z (some x) low e b = inr (rw (held-is e) (row-size n j x low b.0))

-- row 0 is cleared before the empty runs are written
pub first-cleared : (t : List ℤ) (r i : ℕ) → r ≤ length t → i < r → cell_at (cleared t 0 r) i ≡ mark
first-cleared t r i long low = let e : r - 0 ≡ r = omega arith in rw e (marked-at t 0 r i (omega arith) (omega arith) (omega arith))

pub tick-keeps-whole : (l : Layout) (w : Weighing) (v : View) (es : List Edge) (count : ℕ) (starts ends : List Bool) → TickKeepsWhole l w v es count starts ends
unfolding tick_of
tick-keeps-whole l w v es count starts ends t a = record { inside = rw (tick-long l w v es count starts t) a.whole.inside; bounded = by }
  where
    u : List ℤ
    u = rows_of l w v es count l.high t

    by : (n i : ℕ) → n ≤ l.high → i < l.row → Sized (32760000000 + n * 8000000) (cell_at (tick_of l w v es count starts t) (n * l.row + i))
    by zero i low h =
        let e : 0 * l.row + i ≡ i = omega (arith, zero-mul l.row) in
        let long = rows_long l w v es count l.high t in
        let c = first-cleared u l.row i (omega (arith, row_first l, a.whole.inside)) h in
        rw e (begun_sized (32760000000 + 0 * 8000000) l w starts (cleared u 0 l.row) i (omega arith) c)
    by (suc n) i low h =
        let f = suc-mul n l.row in
        let g = row_next n l.row in
        let m : suc n * 8000000 ≡ n * 8000000 + 8000000 = suc-mul n 8000000 in
        let rows = whole-rows t l a.known.laid a.whole in
        let best = rows_best l w v es count a.known l.high t (omega arith) rows.inside rows.bounded n (omega arith) (suc n * l.row + i) (omega arith) (omega arith) in
        let s = best_sized l w v es count a.known t a.whole n (suc n * l.row + i) (cell_at u (suc n * l.row + i)) _ (omega arith) refl best in
        rw (tick-past l w v es count starts t (suc n * l.row + i) a.known.laid (omega arith)) (sized_more (omega arith) s)

pub open_is-whole : (l : Layout) (w : Weighing) (starts : List Bool) → OpenIsWhole l w starts
unfolding open_of
open_is-whole l w starts t a =
    record {
      inside = rw (open_long l w starts t) a.inside;
      bounded = λ n i low h.
          let f = mul-le-mul_right {m = n + 1} {n = l.high + 1} l.row (omega arith) in
          let g = row_next n l.row in
          let c = first-cleared t (cells_in l) (n * l.row + i) a.inside (omega arith) in
          begun_sized (32760000000 + n * 8000000) l w starts (cleared t 0 (cells_in l)) (n * l.row + i) (omega arith) c;
    }
