-- What a table reports: the best of what is reached where a run may end, the shortest among equals. From any table.
use mathlib.Core.Path.{◌≡◌, refl, sym, ap, subst, ◌∙◌}
use mathlib.Core.Option.{Option, none, some}
use mathlib.Core.Bool.{true, ◌&&◌}
use mathlib.Core.Logic.{inr, ⊎_elim}
use mathlib.Core.List.Memᴰ
use mathlib.Core.List.{List, [], ◌∷◌, Memᴰ}
use Prim.Native.Nat.{ℕ, ◌≤◌}
use native.Mathlib.Omega.{arith}
use lib.Dec.{T, leb, leb→le, le→leb}
use Rattle.integers.proofs.Tests.{T_true, and_l, and_r, and_in}
use Rattle.weighting.specs.Order.{IsBest}
use Rattle.weighting.specs.Weighting.{Weighting}
use Rattle.weighting.proofs.Best.{IsBest-more, best_of_best}
use Rattle.weighting.specs.Shortest.{shortest}
use Rattle.weighting.proofs.Shortest.{shortest-in}
use Rattle.walks.specs.Automaton.{Automaton, TickView, View, State, Same}
use Rattle.walks.specs.Walks.{Reach}
use Rattle.walks.specs.Tables.{Table, next, table_at, Closed, Within}
use Rattle.walks.specs.Reports.{ending, entry, entries, report, Arrives, MayEnd}
use Rattle.walks.specs.Claims.{ReportsReached}
use Rattle.walks.proofs.Tests.{of_cond, in-cond}
use Rattle.walks.proofs.States.{opening-holds}
use Rattle.walks.proofs.Offers.{Offered}
use Rattle.walks.proofs.TableBest.{Comes, next_best, reach_in, table_best}

-- what `ending` says
module _ {C E : Type 0} (A : Automaton C E) (low : ℕ) (s : State C) where
  pub ending-out : T (ending A low s) → (s.entered ≡ true) × T (A.is_end s.place) × (low ≤ s.len)
  unfolding ending
  ending-out h = (
    T_true s.entered (search and_l),
    search (and_l, and_r),
    leb→le low s.len (search (and_l, and_r)),
  )

  pub ending-in : s.entered ≡ true → T (A.is_end s.place) → low ≤ s.len → T (ending A low s)
  unfolding ending
  ending-in e h l =
      and_in s.entered (A.is_end s.place && leb low s.len) (rw e tt)
      (and_in (A.is_end s.place) (leb low s.len) h (le→leb low s.len l))

-- r is the worth and the length of a cell of ss at which a run may end
pub record Entered {W C E : Type 0} (A : Automaton C E) (low : ℕ) (U : Table W C) (ss : List (State C)) (r : W × ℕ) : Type 0 where
  pub cell : State C
  pub is_a_cell : Memᴰ cell ss
  pub ends : T (ending A low cell)
  pub holds : U cell ≡ some r.0
  pub len_is : cell.len ≡ r.1

module _ {W C E : Type 0} (A : Automaton C E) (low : ℕ) (U : Table W C) where
  of_entry : (s : State C) (ss : List (State C)) (r : W × ℕ) (o : Option W) → U s ≡ o → Memᴰ r (entry s o (ending A low s)) → Entered A low U (s ∷ ss) r
  of_entry s ss r none e m = absurd (Memᴰ.not-nil m)
  of_entry s ss r (some w) e m =
      let k = of_cond (ending A low s) ((w, s.len) ∷ []) m in
      let p : r ≡ (w, s.len) = Memᴰ.eq_of_singleton k.1 in
      record {
        cell = s;
        is_a_cell = Memᴰ.head refl;
        ends = k.0;
        holds = e ∙ ap some (sym (ap (λ (q : W × ℕ). q.0) p));
        len_is = sym (ap (λ (q : W × ℕ). q.1) p);
      }

  one_more : {s : State C} {ss : List (State C)} {r : W × ℕ} → Entered A low U ss r → Entered A low U (s ∷ ss) r
  one_more o =
      record { cell = o.cell; is_a_cell = Memᴰ.tail o.is_a_cell; ends = o.ends; holds = o.holds; len_is = o.len_is }

  pub of_entries : (ss : List (State C)) (r : W × ℕ) → Memᴰ r (entries A low U ss) → Entered A low U ss r
  unfolding entries
  of_entries [] r m = absurd (Memᴰ.not-nil m)
  of_entries (s ∷ ss) r m =
      ⊎_elim (of_entry s ss r (U s) refl) (λ k. one_more (of_entries ss r k)) (Memᴰ.append_cases (entry s (U s) (ending A low s)) m)

  to-entry : (s : State C) (w : W) → U s ≡ some w → T (ending A low s) → Memᴰ (w, s.len) (entry s (U s) (ending A low s))
  to-entry s w e h = rw e (in-cond (ending A low s) ((w, s.len) ∷ []) h (Memᴰ.head refl))

  pub to-entries : (s : State C) (w : W) (ss : List (State C)) → Memᴰ s ss → T (ending A low s) → U s ≡ some w → Memᴰ (w, s.len) (entries A low U ss)
  unfolding entries
  to-entries s w [] m h e = absurd (Memᴰ.not-nil m)
  to-entries s w (x ∷ ss) m h e =
      ⊎_elim
      (λ (p : s ≡ x).
      Memᴰ.append_left (entries A low U ss)
      (subst (λ (y : State C). Memᴰ (w, s.len) (entry y (U y) (ending A low y))) p (to-entry s w e h)))
      (λ k. Memᴰ.append_right (entry x (U x) (ending A low x)) (to-entries s w ss k h e))
      (Memᴰ.cases_cons m)

module _ {W C E : Type 0} (𝓦 : Weighting W) (A : Automaton C E) (Q : Same C) (𝓥 : View W) (high : ℕ) (all : List (State C)) (closed : Closed A high all) (T₀ : Table W C) (within : Within all T₀) (low n : ℕ) where
  abbrev U : Table W C
  U = table_at 𝓦 A Q high all 𝓥 T₀ n

  cell_best : (s : State C) → IsBest 𝓦.order (Reach 𝓦 A 𝓥 high T₀ n s) (U s)
  cell_best s = table_best 𝓦 A Q 𝓥 high all closed T₀ within n s

  entry-ends : (r : W × ℕ) → Entered A low U all r → MayEnd 𝓦 A 𝓥 low high T₀ n r
  entry-ends r k =
      let b : IsBest 𝓦.order (Reach 𝓦 A 𝓥 high T₀ n k.cell) (some r.0) = rw k.holds at (cell_best k.cell) in
      let e = ending-out A low k.cell k.ends in (
        omega (arith, e.2, k.len_is),
        omega (arith, closed.short k.cell k.is_a_cell, k.len_is),
        record { there = k.cell; len_is = k.len_is; just_entered = e.0; at_end = e.1; reached = b.0 },
      )

  module _ (r : W × ℕ) (k : MayEnd 𝓦 A 𝓥 low high T₀ n r) where
    abbrev a : Arrives 𝓦 A 𝓥 high T₀ n r.1 r.0
    a = k.2

    ends-entry : (q : W × ℕ) × Memᴰ q (entries A low U all) × T ((shortest 𝓦.order).at_least q r)
    ends-entry = go (U a.there) refl (cell_best a.there)
      where
        go : (o : Option W) → U a.there ≡ o → IsBest 𝓦.order (Reach 𝓦 A 𝓥 high T₀ n a.there) o → (q : W × ℕ) × Memᴰ q (entries A low U all) × T ((shortest 𝓦.order).at_least q r)
        go none e h = absurd (h r.0 a.reached)
        go (some w) e h = (
          (w, a.there.len),
          to-entries A low U a.there w all (reach_in 𝓦 A Q high all closed 𝓥 T₀ within a.reached) (ending-in A low a.there a.just_entered a.at_end (omega (arith, k.0, a.len_is))) e,
          shortest-in 𝓦.order (w, a.there.len) r (h.1 r.0 a.reached, λ _. omega (arith, a.len_is)),
        )

  report_best : IsBest (shortest 𝓦.order) (MayEnd 𝓦 A 𝓥 low high T₀ n) (report 𝓦 A low all U)
  unfolding report
  report_best =
      IsBest-more (shortest 𝓦.order)
      (λ r m. entry-ends r (of_entries A low U all r m))
      ends-entry
      (report 𝓦 A low all U) (best_of_best (shortest 𝓦.order) (entries A low U all))

pub reports-reached : {W C E : Type 0} (𝓦 : Weighting W) (A : Automaton C E) (Q : Same C) (𝓥 : View W) (high : ℕ) → ReportsReached 𝓦 A Q 𝓥 high
reports-reached 𝓦 A Q 𝓥 high all closed T₀ within low n = report_best 𝓦 A Q 𝓥 high all closed T₀ within low n

-- ---- one tick

-- r is the worth and the length of what one tick offers to a cell at which a run may end
pub record Into {W C E : Type 0} (𝓦 : Weighting W) (A : Automaton C E) (high : ℕ) (g : TickView W) (U : Table W C) (all : List (State C)) (low : ℕ) (r : W × ℕ) : Type 0 where
  pub there : State C
  pub is_a_cell : Memᴰ there all
  pub may_end : T (ending A low there)
  pub offered : Offered 𝓦 A high g U all there r.0
  pub len_is : there.len ≡ r.1

-- The report of the table one tick later is the best of what the tick offers: a cell of length 1 or more holds the best of
-- what was offered to it.
module _ {W C E : Type 0} (𝓦 : Weighting W) (A : Automaton C E) (Q : Same C) (high : ℕ) (all : List (State C)) (g : TickView W) (U : Table W C) (low : ℕ) (some-low : 1 ≤ low) where
  abbrev N : Table W C
  N = next 𝓦 A Q high all g U

  offered-only : (s : State C) (v : W) → T (ending A low s) → Comes 𝓦 A Q high all g U s v → Offered 𝓦 A high g U all s v
  offered-only s v h =
      ⊎_elim
      (λ o.
      let z : s.len ≡ 0 = ap (λ (y : State C). y.len) (opening-holds 𝓦 A Q s v o).1 in
      let long = (ending-out A low s h).2 in
      absurd (omega arith))
      (λ o. o)

  entry-into : (r : W × ℕ) → Entered A low N all r → Into 𝓦 A high g U all low r
  entry-into r k =
      let b : IsBest 𝓦.order (Comes 𝓦 A Q high all g U k.cell) (some r.0) = rw k.holds at (next_best 𝓦 A Q high all g U k.cell) in
      record { there = k.cell; is_a_cell = k.is_a_cell; may_end = k.ends; offered = offered-only k.cell r.0 k.ends b.0; len_is = k.len_is }

  into-entry : (r : W × ℕ) → Into 𝓦 A high g U all low r → (q : W × ℕ) × Memᴰ q (entries A low N all) × T ((shortest 𝓦.order).at_least q r)
  into-entry r k = go (N k.there) refl (next_best 𝓦 A Q high all g U k.there)
    where
      go : (o : Option W) → N k.there ≡ o → IsBest 𝓦.order (Comes 𝓦 A Q high all g U k.there) o → (q : W × ℕ) × Memᴰ q (entries A low N all) × T ((shortest 𝓦.order).at_least q r)
      go none e h = absurd (h r.0 (inr k.offered))
      go (some w) e h = (
        (w, k.there.len),
        to-entries A low N k.there w all k.is_a_cell k.may_end e,
        shortest-in 𝓦.order (w, k.there.len) r (h.1 r.0 (inr k.offered), λ _. omega (arith, k.len_is)),
      )

  pub offers_best : IsBest (shortest 𝓦.order) (Into 𝓦 A high g U all low) (report 𝓦 A low all N)
  unfolding report
  offers_best =
      IsBest-more (shortest 𝓦.order)
      (λ r m. entry-into r (of_entries A low N all r m))
      into-entry
      (report 𝓦 A low all N) (best_of_best (shortest 𝓦.order) (entries A low N all))
