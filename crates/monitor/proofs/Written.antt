-- What was written into cells is held by them, and further cells are as they were.
use Prim.Native.Nat.{ℕ, suc, ◌+◌, ◌≤◌, ◌<◌}
use native.Mathlib.Omega.{arith}
use mathlib.Core.Path.{◌≡◌, refl, sym, ap, subst, ◌∙◌}
use mathlib.Core.Logic.{◌⊎◌, inl, inr, ⊎_elim}
use mathlib.Core.List.{List, [], ◌∷◌, ◌++◌, map, Memᴰ}
use mathlib.Core.Option.{Option, none, some, none-ne-some}
use mathlib.Core.Bool.{Bool, true, false, cond, ◌||◌, or-true}
use borrow.Author.Tests.{le-leb, leb-true, ltb-true}
use lib.Dec.{leb, ltb}
use lib.ListN.{length, take, drop, get_or, length-append, length-drop, length-map, length-take, replicate, length-replicate}
use lib.Seq.{get_or-take, take_at, drop_at}
use lib.IntN.{ℤ, nat_abs}
use Rattle.integers.specs.Equal.{eq_z}
use Rattle.integers.proofs.Equal.{eq_self, eq-true}
use Rattle.integers.proofs.Tests.{true_T}
use Rattle.weighting.specs.Cell.{mark, cell_of, held_in}
use Rattle.weighting.proofs.Cell.{NoMark, held_in-mark, held_in-cell_of, cell_of-held_in}
use Rattle.pattern.specs.declared.Pattern.{Pattern}
use Rattle.pattern.specs.Slots.{all}
use Rattle.pattern.specs.Sound.{sound_of}
use Rattle.pattern.specs.Clocks.{Clocks}
use Rattle.pattern.specs.Cells.{cells_needed}
use Rattle.pattern.proofs.SoundLaws.{both}
use Rattle.walks.specs.Automaton.{State, same_state}
use Rattle.walks.specs.Tables.{Table, Within}
use Rattle.walks.proofs.States as states
use Rattle.book.specs.Automaton.{same_clocks}
use Rattle.book.proofs.Members.{all_member, at_member}
use Rattle.monitor.specs.Cells.{up_to, cell_states, state_at, index_of, is_cell, held_by, written}
use Rattle.monitor.specs.Open.{marks}
use Rattle.monitor.specs.Feed.{cell_fine, cells_broken}
use Rattle.monitor.specs.Between.{Aside}
use Rattle.monitor.proofs.Numbers.{from-length, made-front, made-rest, made_in, made-same}
use Rattle.monitor.proofs.CellLaws.{Celled, is_a_cell, state-back, index-low, at-index, celled_at, in_cells}

module _ (p : Pattern) (sound : sound_of p ≡ true) where
  pub held-written : (U : Table ℤ Clocks) (t : List ℤ) (s : State Clocks) → Celled p sound s → NoMark (U s) → held_by p (written p U t) s ≡ U s
  unfolding held_by written
  held-written U t s h n =
      rw (is_a_cell p sound s h, made-front (λ i. cell_of (U (state_at p i))) (cells_needed p) (index_of p s) mark (drop (cells_needed p) t) (index-low p sound s h), state-back p sound s h)
      (held_in-cell_of (U s) n)

  pub written-length : (U : Table ℤ Clocks) (t : List ℤ) → cells_needed p ≤ length t → length (written p U t) ≡ length t
  unfolding written
  written-length U t h =
      let f : List ℤ = map (λ i. cell_of (U (state_at p i))) (up_to (cells_needed p)) in
      let e : length f ≡ cells_needed p = length-map (up_to (cells_needed p)) (λ i. cell_of (U (state_at p i))) ∙ from-length 0 (cells_needed p) in
      length-append f (drop (cells_needed p) t) ∙ (let d = length-drop (cells_needed p) t in omega arith)

  pub marks-length : (u : List ℤ) → cells_needed p ≤ length u → length (marks p u) ≡ length u
  marks-length u h = length-append (replicate (cells_needed p) mark) (drop (cells_needed p) u) ∙ (let d = length-drop (cells_needed p) u in let r = length-replicate (cells_needed p) mark in omega arith)

  -- the lent cell says what its state holds
  pub cell-is : (t : List ℤ) (i : ℕ) → i < cells_needed p → held_by p t (state_at p i) ≡ held_in (get_or t i mark)
  unfolding held_by
  cell-is t i h = rw (is_a_cell p sound (state_at p i) (celled_at p sound i h), at-index p sound i h)

  cell_says : (t : List ℤ) (i : ℕ) → i < cells_needed p → get_or t i mark ≡ cell_of (held_by p t (state_at p i))
  cell_says t i h = sym (ap cell_of (cell-is t i h) ∙ cell_of-held_in (get_or t i mark))

  -- and no other state holds anything
  pub only-cells_hold : (t : List ℤ) (x : State Clocks) (w : ℤ) → held_by p t x ≡ some w → (index_of p x < cells_needed p) × (state_at p (index_of p x) ≡ x)
  unfolding held_by is_cell
  only-cells_hold t x w e = by (is_cell p x) refl e
    where
      by : (y : Bool) → is_cell p x ≡ y → cond y (held_in (get_or t (index_of p x) mark)) none ≡ some w → (index_of p x < cells_needed p) × (state_at p (index_of p x) ≡ x)
      by true q k =
          let z = both (ltb (index_of p x) (cells_needed p)) (same_state same_clocks x (state_at p (index_of p x))) q in
          (ltb-true _ _ z.0, sym (states.same_eq same_clocks x (state_at p (index_of p x)) (true_T _ z.1)))
      by false q k = absurd (none-ne-some w k)

  pub held-within : (t : List ℤ) → Within (cell_states p) (held_by p t)
  held-within t x w e =
      let k = only-cells_hold t x w e in
      subst (λ (y : State Clocks). Memᴰ y (cell_states p)) k.1 (in_cells p sound (state_at p (index_of p x)) (celled_at p sound (index_of p x) k.0))

  -- ---- cells in range

  fine_of : (o : Option ℤ) → ((z : ℤ) → o ≡ some z → nat_abs z ≤ 32760000000) → cell_fine (cell_of o) ≡ true
  unfolding cell_fine
  fine_of none h = rw (eq_self mark)
  fine_of (some z) h = rw (le-leb _ _ (h z refl)) (or-true (eq_z z mark))

  all-at : {A : Type 0} (f : A → Bool) (d : A) (l : List A) → ((i : ℕ) → i < length l → f (get_or l i d) ≡ true) → all f l ≡ true
  all-at f d [] h = refl
  all-at f d (x ∷ l) h = rw (h 0 (omega arith), all-at f d l (λ i k. h (suc i) (omega arith)))

  pub cells-fine : (t : List ℤ) → cells_needed p ≤ length t → ((s : State Clocks) (z : ℤ) → Celled p sound s → held_by p t s ≡ some z → nat_abs z ≤ 32760000000) → cells_broken p t ≡ false
  unfolding cells_broken
  cells-fine t long h =
      let e = length-take (cells_needed p) t in
      rw (all-at cell_fine mark (take (cells_needed p) t)
      (λ i l. let k : i < cells_needed p = omega arith in
      rw (get_or-take (cells_needed p) t i mark k, cell_says t i k) (fine_of (held_by p t (state_at p i)) (λ z q. h (state_at p i) z (celled_at p sound i k) q))))

  fine_sized : (z : ℤ) → cell_fine z ≡ true → (z ≡ mark) ⊎ (nat_abs z ≤ 32760000000)
  unfolding cell_fine
  fine_sized z h = by (eq_z z mark) refl h
    where
      by : (x : Bool) → eq_z z mark ≡ x → x || leb (nat_abs z) 32760000000 ≡ true → (z ≡ mark) ⊎ (nat_abs z ≤ 32760000000)
      by true e q = inl (eq-true z mark e)
      by false e q = inr (leb-true _ _ q)

  pub fine-at : (t : List ℤ) → cells_needed p ≤ length t → all cell_fine (take (cells_needed p) t) ≡ true → (i : ℕ) (d : ℤ) → i < cells_needed p
      → (get_or t i d ≡ mark) ⊎ (nat_abs (get_or t i d) ≤ 32760000000)
  fine-at t long h i d l =
      let e = length-take (cells_needed p) t in
      fine_sized (get_or t i d)
      (subst (λ (z : ℤ). cell_fine z ≡ true) (get_or-take (cells_needed p) t i d l)
      (all_member cell_fine (take (cells_needed p) t) h (get_or (take (cells_needed p) t) i d) (at_member (take (cells_needed p) t) i d (omega arith))))

  pub held_low : (t : List ℤ) → cells_needed p ≤ length t → all cell_fine (take (cells_needed p) t) ≡ true → (x : State Clocks) (w : ℤ) → held_by p t x ≡ some w → nat_abs w ≤ 32760000000
  held_low t long h x w e =
      let k = only-cells_hold t x w e in
      let z : ℤ = get_or t (index_of p x) mark in
      let q : held_in z ≡ some w = sym (cell-is t (index_of p x) k.0) ∙ ap (held_by p t) k.1 ∙ e in
      ⊎_elim
      (λ m. absurd (none-ne-some w (sym held_in-mark ∙ ap held_in (sym m) ∙ q)))
      (λ l. subst (λ (v : ℤ). nat_abs v ≤ 32760000000) (sym (cell_of-held_in z) ∙ ap cell_of q) l)
      (fine-at t long h (index_of p x) mark k.0)

-- ---- written again, or written alike

module _ (p : Pattern) where
  -- only what was written last stays
  pub written_again : (U W : Table ℤ Clocks) (t : List ℤ) → written p U (written p W t) ≡ written p U t
  unfolding written
  written_again U W t = rw (made-rest (λ i. cell_of (W (state_at p i))) (cells_needed p) (drop (cells_needed p) t))

  pub marks_again : (u : List ℤ) → marks p (marks p u) ≡ marks p u
  marks_again u =
      ap (◌++◌ (replicate (cells_needed p) mark))
      (drop_at (replicate (cells_needed p) mark) (drop (cells_needed p) u) (cells_needed p) (length-replicate (cells_needed p) mark))

  -- only the cells' states count
  pub written_same : (U W : Table ℤ Clocks) (t : List ℤ) → ((x : State Clocks) → Memᴰ x (cell_states p) → U x ≡ W x) → written p U t ≡ written p W t
  unfolding written
  written_same U W t h =
      ap (λ (l : List ℤ). l ++ drop (cells_needed p) t)
      (made-same (λ i. cell_of (U (state_at p i))) (λ i. cell_of (W (state_at p i))) 0 (cells_needed p)
      (λ k l. let z : 0 + k ≡ k = omega arith in ap cell_of (h (state_at p k) (subst (λ (j : ℕ). Memᴰ (state_at p j) (cell_states p)) z (made_in (state_at p) 0 (cells_needed p) k (omega arith))))))

-- ---- beside the worths

module _ (p : Pattern) (sound : sound_of p ≡ true) (t₀ u₀ : List ℤ) where
  -- a table written, and marks: from tables whose further cells are untouched
  pub aside-written : (U : Table ℤ Clocks) (t u : List ℤ) → cells_needed p ≤ length t → cells_needed p ≤ length u
      → drop (cells_needed p) t ≡ drop (cells_needed p) t₀ → drop (cells_needed p) u ≡ drop (cells_needed p) u₀ → length t ≡ length t₀ → length u ≡ length u₀
      → Aside p t₀ u₀ (written p U t) (marks p u)
  unfolding written
  aside-written U t u long wide e f m n =
      record {
        marked = take_at (replicate (cells_needed p) mark) (drop (cells_needed p) u) (cells_needed p) (length-replicate (cells_needed p) mark);
        further_first = made-rest (λ i. cell_of (U (state_at p i))) (cells_needed p) (drop (cells_needed p) t) ∙ e;
        further_second = drop_at (replicate (cells_needed p) mark) (drop (cells_needed p) u) (cells_needed p) (length-replicate (cells_needed p) mark) ∙ f;
        first_long = written-length p sound U t long ∙ m;
        second_long = marks-length p sound u wide ∙ n;
      }
