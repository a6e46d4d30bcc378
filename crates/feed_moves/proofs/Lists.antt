-- Lists cell by cell: what is written, and what is cleared.
use Prim.Native.Nat.{ℕ, zero, suc, ◌+◌, ◌-◌, ◌≤◌, ◌<◌}
use native.Mathlib.Omega.{arith}
use native.Mathlib.Numerals.{add-one}
use mathlib.Core.Path.{◌≡◌, refl, sym, ap, subst, ◌∙◌}
use mathlib.Core.List.{List, [], ◌∷◌, ◌++◌, map}
use mathlib.Core.Bool.{Bool, true, false}
use borrow.Author.Tests.{ltb-true, ltb-false}
use lib.Dec.{ltb}
use lib.ListN.{length, drop, get_or, replicate, length-map}
use lib.Seq.{ext_get_or, get_or-append-add, get_or-drop}
use lib.IntN.{ℤ, pos}
use Rattle.weighting.specs.Cell.{mark, cell_of, held_in}
use Rattle.weighting.proofs.Cell.{cell_of-held_in}
use Rattle.pattern.specs.declared.Pattern.{Pattern}
use Rattle.pattern.specs.Sound.{sound_of}
use Rattle.pattern.specs.Clocks.{Clocks}
use Rattle.pattern.specs.Cells.{cells_needed}
use Rattle.walks.specs.Tables.{Table}
use Rattle.table.specs.Moves.{cell_at, marked, cleared}
use Rattle.monitor.specs.Cells.{from, up_to, state_at, written}
use Rattle.monitor.specs.Open.{marks}
use Rattle.monitor.proofs.Numbers.{from-length, made-front}
use Rattle.monitor.proofs.Written.{written-length}
use Rattle.feed_ticks.proofs.Told.{made_more}

-- past the end of a list no default shows
pub same_default : {A : Type 0} (l : List A) (i : ℕ) (a b : A) → i < length l → get_or l i a ≡ get_or l i b
same_default [] i a b h = absurd (omega arith)
same_default (x ∷ l) zero a b h = refl
same_default (x ∷ l) (suc i) a b h = same_default l i a b (omega arith)

module _ (p : Pattern) (sound : sound_of p ≡ true) where
  written-front : (U : Table ℤ Clocks) (t : List ℤ) (i : ℕ) → i < cells_needed p → cell_at (written p U t) i ≡ cell_of (U (state_at p i))
  unfolding written
  written-front U t i h = made-front (λ k. cell_of (U (state_at p k))) (cells_needed p) i (pos 0) (drop (cells_needed p) t) h

  written-past : (U : Table ℤ Clocks) (t : List ℤ) (i : ℕ) → cells_needed p ≤ i → cell_at (written p U t) i ≡ cell_at t i
  unfolding written
  written-past U t i h =
      let f : List ℤ = map (λ k. cell_of (U (state_at p k))) (up_to (cells_needed p)) in
      let long : length f ≡ cells_needed p = length-map (up_to (cells_needed p)) (λ k. cell_of (U (state_at p k))) ∙ from-length 0 (cells_needed p) in
      let e : length f + (i - cells_needed p) ≡ i = omega arith in
      let g : cells_needed p + (i - cells_needed p) ≡ i = omega arith in
      subst (λ (j : ℕ). get_or (f ++ drop (cells_needed p) t) j (pos 0) ≡ get_or t i (pos 0)) e
      (get_or-append-add f (drop (cells_needed p) t) (i - cells_needed p) (pos 0) ∙ get_or-drop (cells_needed p) t (i - cells_needed p) (pos 0) ∙ ap (λ (j : ℕ). get_or t j (pos 0)) g)

  -- cells that hold what a table has, with further cells untouched, are that table written
  pub is-written : (U : Table ℤ Clocks) (t t' : List ℤ) → cells_needed p ≤ length t → length t' ≡ length t
      → ((i : ℕ) → i < cells_needed p → held_in (cell_at t' i) ≡ U (state_at p i)) → ((i : ℕ) → cells_needed p ≤ i → cell_at t' i ≡ cell_at t i) → t' ≡ written p U t
  is-written U t t' long same holds further = ext_get_or (pos 0) t' (written p U t) (same ∙ sym (written-length p sound U t long)) (λ i l. by i (ltb i (cells_needed p)) refl)
    where
      by : (i : ℕ) (x : Bool) → ltb i (cells_needed p) ≡ x → get_or t' i (pos 0) ≡ get_or (written p U t) i (pos 0)
      by i true e = let k = ltb-true i (cells_needed p) e in sym (cell_of-held_in (cell_at t' i)) ∙ ap cell_of (holds i k) ∙ sym (written-front U t i k)
      by i false e = let k = ltb-false i (cells_needed p) e in further i k ∙ sym (written-past U t i k)

-- ---- cleared cells

const_made : (i n : ℕ) → map (λ (k : ℕ). mark) (from i n) ≡ replicate n mark
unfolding from
const_made i zero = refl
const_made i (suc n) = ap (◌∷◌ mark) (const_made (suc i) n)

marked-is : (t : List ℤ) (n : ℕ) → n ≤ length t → marked t 0 n ≡ map (λ (k : ℕ). mark) (up_to n) ++ drop n t
unfolding marked from
marked-is t zero h = refl
marked-is t (suc n) h =
    let z : 0 + n ≡ n = omega arith in
    rw (marked-is t n (omega arith), z) (made_more (λ (k : ℕ). mark) t n (pos 0) (omega arith) ∙ rw (add-one n))

pub cleared-is : (p : Pattern) (t : List ℤ) → cells_needed p ≤ length t → cleared t 0 (cells_needed p) ≡ marks p t
cleared-is p t h =
    let z : cells_needed p - 0 ≡ cells_needed p = omega arith in
    ap (marked t 0) z ∙ marked-is t (cells_needed p) h ∙ ap (λ (l : List ℤ). l ++ drop (cells_needed p) t) (const_made 0 (cells_needed p))
