-- What each step on the table keeps of the flags.
use Prim.Native.Nat.{ℕ, zero, suc, ◌+◌, ◌-◌, ◌*◌, ◌/◌, ◌%◌, ◌≤◌, ◌<◌}
use native.Mathlib.Omega.{arith}
use native.Mathlib.Nat.{zero-mul, div-add-mod', div-lt_iff_lt-mul, mod-lt}
use mathlib.Core.Path.{◌≡◌, refl, sym, ap, ◌∙◌}
use mathlib.Core.Bool.{Bool, true, false, cond}
use mathlib.Core.List.{List}
use mathlib.Core.Logic.{◌⊎◌, inl, inr}
use borrow.Author.Tests.{eqb-true, eqb-false}
use lib.Dec.{eqb}
use lib.ListN.{length, get_or, set}
use lib.Seq.{get_or-set_same, get_or-set_other, set-get_or}
use lib.IntN.{ℤ, pos}
use Rattle.weighting.specs.declared.Weighing.{Weighing}
use Rattle.weighting.specs.Order.{choose}
use Rattle.weighting.proofs.Weightings.{weighting_of}
use Rattle.weighting.specs.Cell.{mark, cell_of, held_in}
use Rattle.pattern.specs.declared.Edge.{Edge}
use Rattle.pattern.specs.Clocks.{Clocks, guards_hold, after_resets}
use Rattle.cells.specs.declared.Layout.{Layout}
use Rattle.cells.specs.Layout.{Laid, cells_in}
use Rattle.cells.specs.Index.{code_of, ticked, Within, block_at}
use Rattle.cells.proofs.Blocks.{row_inside}
use Rattle.cells.proofs.Digits.{block-some, coded, reset-within, ticked-within}
use Rattle.flags.specs.Flags.{bit_at, flag_at, start_at, raised, start_flags, RowFlagged, Flagged, IsRaised, Grown}
use Rattle.flags.proofs.Flags.{raised_is, grown-refl, raised-grown, flagged-write, flagged-put, flagged_wiped, no_flags, in_row}
use Rattle.table.specs.Moves.{cell_at, marked, moved, stay_of, starts_of, open_of}
use Rattle.table.proofs.Kept.{marked-long}

-- a block's flag is one of 32
pub flag_low : (l : Layout) (stage p : ℕ) → stage ≤ 1 → p < l.places → flag_at l stage p < 2 * l.places
flag_low l zero p h q = let z = zero-mul l.places in omega arith
flag_low l (suc zero) p h q = omega arith
flag_low l (suc (suc stage)) p h q = absurd (omega arith)

-- a block starts where its flag says
pub block_start : (l : Layout) (n stage p : ℕ) → block_at l n stage p ≡ start_at l n (flag_at l stage p)
unfolding block_at
block_start l n stage p = refl

pub entered-start : (l : Layout) (n p : ℕ) → block_at l n 0 p ≡ start_at l n p
entered-start l n p = let z : flag_at l 0 p ≡ p = omega (arith, zero-mul l.places) in block_start l n 0 p ∙ ap (start_at l n) z

module _ (l : Layout) (laid : Laid l) (w : Weighing) where
  -- a move into block i of row n
  module _ (e : Edge) (n i to : ℕ) (cs : Clocks) (x : ℤ) (t : List ℤ) (low : i < 2 * l.places) (at : to ≡ start_at l n i) (within : Within l.radices cs) where
    -- whose flag is raised
    flagged_move : (f : List ℕ) → IsRaised f n i → Flagged l t f → Flagged l (moved l w e to cs x t) f
    unfolding moved
    flagged_move f up k = rw at (by (guards_hold cs e))
      where
        c : ℕ
        c = code_of l.radices (after_resets e cs)

        new : ℤ
        new = cell_of (choose (weighting_of w).order (held_in (cell_at t (start_at l n i + c))) x)

        by : (y : Bool) → Flagged l (cond y (set t (start_at l n i + c) new) t) f
        by false = k
        by true = flagged-write l laid t f n i c new low (coded l (after_resets e cs) laid (reset-within l.radices e cs within)).whole up k

    -- no move
    flagged-none : (f : List ℕ) → guards_hold cs e ≡ false → Flagged l t f → Flagged l (moved l w e to cs x t) f
    unfolding moved
    flagged-none f z k = rw z k

    -- whose flag is raised with it, if there is a move
    pub flagged-moved : (f g : List ℕ) (u : List ℤ) → n ≤ l.high → Flagged l t f → u ≡ moved l w e to cs x t → g ≡ cond (guards_hold cs e) (raised f n i) f → Grown l u f g
    flagged-moved f g u high k p q = rw (p, q) (by (guards_hold cs e) refl)
      where
        inside : n < length f
        inside = let z = k.long in omega arith

        by : (y : Bool) → guards_hold cs e ≡ y → Grown l (moved l w e to cs x t) f (cond y (raised f n i) f)
        by true z =
            let up = raised-grown l laid t f n i inside k in
            record { flagged = flagged_move (raised f n i) (raised_is f n i inside) up.flagged; higher = up.higher }
        by false z = grown-refl (flagged-none f z k)

  -- a worth stays in a place whose flag is raised
  pub flagged-stay : (g : ℤ) (n p : ℕ) (cs : Clocks) (v : ℤ) (t : List ℤ) (f : List ℕ) → p < l.places → IsRaised f (n + 1) (flag_at l 1 p) → Flagged l t f → Flagged l (stay_of l w g n p cs v t) f
  unfolding stay_of
  flagged-stay g n p cs v t f h up k =
      flagged_move _ (n + 1) (flag_at l 1 p) _ (ticked l.radices cs) _ t (omega arith) (block_start l (n + 1) 1 p) (ticked-within l cs laid) f up k

module _ (l : Layout) (laid : Laid l) where
  -- the start places
  pub flagged-starts : (u : ℤ) (starts : List Bool) (m : ℕ) (t : List ℤ) (f : List ℕ) → m ≤ l.places → Flagged l t f → Flagged l (starts_of l.block u starts m t) (start_flags starts m f)
  unfolding starts_of start_flags
  flagged-starts u starts zero t f h k = k
  flagged-starts u starts (suc p) t f h k = by (get_or starts p false) (flagged-starts u starts p t f (omega arith) k)
    where
      t' : List ℤ
      t' = starts_of l.block u starts p t

      f' : List ℕ
      f' = start_flags starts p f

      by : (b : Bool) → Flagged l t' f' → Flagged l (cond b (set t' (p * l.block) u) t') (cond b (raised f' 0 p) f')
      by false a = a
      by true a =
          let at : p * l.block ≡ start_at l 0 p + 0 = omega (arith, zero-mul l.row) in
          rw at (flagged-put l laid t' f' 0 p 0 u (omega arith) (omega arith) (block-some l laid) a).flagged

-- ---- marks

pub marked-in : (t : List ℤ) (a n k : ℕ) → k < n → a + n ≤ length t → cell_at (marked t a n) (a + k) ≡ mark
unfolding marked
marked-in t a zero k h long = absurd (omega arith)
marked-in t a (suc n) k h long = by (λ low. marked-in t a n k low (omega arith)) (eqb k n) refl
  where
    by : (k < n → cell_at (marked t a n) (a + k) ≡ mark) → (b : Bool) → eqb k n ≡ b → cell_at (set (marked t a n) (a + n) mark) (a + k) ≡ mark
    by before true e =
        let q : k ≡ n = eqb-true k n e in
        let m = marked-long t a n in
        rw q (get_or-set_same (marked t a n) (a + n) mark (pos 0) (omega arith))
    by before false e =
        let q = eqb-false k n e in
        get_or-set_other (marked t a n) (a + n) (a + k) mark (pos 0) (λ z. q (omega arith)) ∙ before (omega (arith, q))

marked-out : (t : List ℤ) (a n i : ℕ) → (i < a) ⊎ (a + n ≤ i) → cell_at (marked t a n) i ≡ cell_at t i
unfolding marked
marked-out t a zero i h = refl
marked-out t a (suc n) i h =
    get_or-set_other (marked t a n) (a + n) i mark (pos 0) (λ z. apart_from h z) ∙ marked-out t a n i (less h)
  where
    apart_from : (i < a) ⊎ (a + suc n ≤ i) → i ≡ a + n → ⊥
    apart_from (inl x) z = omega arith
    apart_from (inr x) z = omega arith

    less : (i < a) ⊎ (a + suc n ≤ i) → (i < a) ⊎ (a + n ≤ i)
    less (inl x) = inl x
    less (inr x) = inr (omega arith)

-- marks over marks change nothing
pub marked-none : (t : List ℤ) (a n : ℕ) → ((k : ℕ) → k < n → cell_at t (a + k) ≡ mark) → marked t a n ≡ t
unfolding marked
marked-none t a zero h = refl
marked-none t a (suc n) h =
    let e = marked-none t a n (λ k z. h k (omega arith)) in
    rw e (ap (set t (a + n)) (sym (h n (omega arith))) ∙ set-get_or t (a + n) (pos 0))

pub marked_append : (t : List ℤ) (a m n : ℕ) → marked (marked t a m) (a + m) n ≡ marked t a (m + n)
unfolding marked
marked_append t a m zero = let e : m + 0 ≡ m = omega arith in rw e
marked_append t a m (suc n) =
    let e : m + suc n ≡ suc (m + n) = omega arith in
    let f : a + m + n ≡ a + (m + n) = omega arith in
    rw (e, f, marked_append t a m n)

-- ---- a row is wiped

module _ (l : Layout) (laid : Laid l) where
  pub row_wiped : (t : List ℤ) (f : List ℕ) (n : ℕ) → n ≤ l.high → cells_in l ≤ length t → Flagged l t f → Flagged l (marked t (n * l.row) l.row) (set f n 0)
  row_wiped t f n low long k =
      flagged_wiped l laid t (marked t (n * l.row) l.row) f n low k (λ i h. marked-in t (n * l.row) l.row i h inside) (λ i h. marked-out t (n * l.row) l.row i h)
    where
      inside : n * l.row + l.row ≤ length t
      inside = omega (arith, row_inside l n low)

  -- the blocks from the i-th on are as they were, so that one without a flag is empty
  pub block-empty : (t : List ℤ) (x n i k : ℕ) → RowFlagged l t x n → i < 2 * l.places → bit_at x i ≡ 0 → k < l.block → cell_at (marked t (n * l.row) (i * l.block)) (start_at l n i + k) ≡ mark
  block-empty t x n i k h low z hk = marked-out t (n * l.row) (i * l.block) (start_at l n i + k) (inr (omega arith)) ∙ h.marks i k low hk z

  -- in a row without a flag there is nothing to wipe
  pub row-none : (t : List ℤ) (n : ℕ) → RowFlagged l t 0 n → t ≡ marked t (n * l.row) l.row
  row-none t n h = sym (marked-none t (n * l.row) l.row cell)
    where
      cell : (k : ℕ) → k < l.row → cell_at t (n * l.row + k) ≡ mark
      cell k low =
          let some = block-some l laid in
          let split : k / l.block * l.block + k % l.block ≡ k = div-add-mod' k l.block in
          let rest : k % l.block < l.block = mod-lt k some in
          let part : k / l.block < 2 * l.places = (div-lt_iff_lt-mul {x = k} {y = 2 * l.places} some).1 (rw laid.row_is at low) in
          let at : n * l.row + k ≡ start_at l n (k / l.block) + k % l.block = omega arith in
          rw at (no_flags l t n h (k / l.block) (k % l.block) part rest)

  -- an opened table: all marks but in the start places
  pub flagged_open : (w : Weighing) (starts : List Bool) (t : List ℤ) (f : List ℕ) → cells_in l ≤ length t → l.high < length f → Flagged l (open_of l w starts t) (start_flags starts l.places f)
  unfolding open_of
  flagged_open w starts t f long wide =
      flagged-starts l laid (weighting_of w).unit starts l.places _ f (omega arith)
      (record { long = wide; rows = λ n low. record { marks = λ i k hi hk z. cell n i k low hi hk } })
    where
      cell : (n i k : ℕ) → n ≤ l.high → i < 2 * l.places → k < l.block → cell_at (marked t 0 (cells_in l - 0)) (start_at l n i + k) ≡ mark
      cell n i k low hi hk =
          let h = in_row l laid i k hi hk in
          let at : start_at l n i + k ≡ 0 + (start_at l n i + k) = omega arith in
          rw at (marked-in t 0 (cells_in l - 0) (start_at l n i + k) (omega (arith, row_inside l n low)) (omega arith))
