-- Each cell after a tick holds the best of what was offered to it; and what a tick leaves as it was.
use Prim.Native.Nat.{ℕ, zero, suc, ◌+◌, ◌-◌, ◌*◌, ◌^◌, ◌≤◌, ◌<◌}
use native.Mathlib.Omega.{arith}
use native.Mathlib.Nat.{suc-mul, mul-le-mul_right}
use mathlib.Core.Path.{◌≡◌, refl, sym, ap, subst, ◌∙◌}
use mathlib.Core.Bool.{Bool, true, false, cond}
use mathlib.Core.Logic.{◌⊎◌, inl, inr, ⊎_elim}
use mathlib.Core.Option.{some, none-ne-some, some-injective}
use mathlib.Core.List.{List}
use borrow.Author.Tests.{eqb-true, eqb-false, ltb-true, ltb-false}
use lib.Dec.{eqb, ltb}
use lib.ListN.{length, set}
use lib.Seq.{get_or-set_same, get_or-set_other}
use lib.IntN.{ℤ, pos, nat_abs}
use lib.Signed.{lt_z}
use Rattle.weighting.specs.declared.Weighing.{Weighing}
use Rattle.weighting.specs.Order.{IsBest, choose}
use Rattle.weighting.proofs.Weightings.{weighting_of}
use Rattle.weighting.specs.Cell.{mark, cell_of, held_in}
use Rattle.weighting.proofs.Best.{IsBest_iff, choose_best}
use Rattle.weighting.proofs.Cell.{held_in-mark, held_in-cell_of, held_in_no_mark, choose_no_mark, above-mark, small_no_mark}
use Rattle.weighting.proofs.Sizes.{combine-size}
use Rattle.pattern.specs.declared.Edge.{Edge}
use Rattle.pattern.specs.Clocks.{Clocks, guards_hold, after_resets}
use Rattle.cells.specs.declared.Layout.{Layout}
use Rattle.cells.specs.Layout.{Laid, cells_in}
use Rattle.cells.specs.Index.{code_of, clocks_at, ticked, Within, block_at}
use Rattle.cells.proofs.Digits.{coded, ticked-within, reset-within}
use Rattle.cells.proofs.Blocks.{row_next, block-low, row_fits}
use Rattle.table.specs.declared.View.{View}
use Rattle.steps.specs.Steps.{edge_in}
use Rattle.table.specs.Moves.{cell_at, marked, cleared, each, offered, moved, still, leave_of, leaves_of, spread_of, visit_of, visits_of, pass_of, gain_at, place_of, places_of, row_of, rows_of}
use Rattle.table.specs.Asks.{Sized, Known, Bounded, Passing, Ready}
use Rattle.table.proofs.Kept.{Kept, kept_trans, kept-each, turn-kept, leave_kept, visit_kept, pass_kept, place_kept, marked-kept, marked-long, row_kept}
use Rattle.table.proofs.Steps.{sized_in, sized_mark, bounded-kept, pass_asks, bounded-from}
use Rattle.table_laws.specs.Offers.{Moves, Passes, stage_of, gains_of, Follows, Goes, RowOffers}

-- cell j of u holds the best of what cell j of t held and what has Q
abbrev pub Offers : Weighing → (t u : List ℤ) → ℕ → (ℤ → Type 0) → Type 1
Offers w t u j Q =
    (P : ℤ → Type 0) → IsBest (weighting_of w).order P (held_in (cell_at t j))
    → IsBest (weighting_of w).order (λ x. P x ⊎ Q x) (held_in (cell_at u j))

module _ (w : Weighing) (j : ℕ) where
  offers-none : (t : List ℤ) (Q : ℤ → Type 0) → ((x : ℤ) → Q x → ⊥) → Offers w t t j Q
  offers-none t Q never P h =
      IsBest_iff (weighting_of w).order (λ x p. inl p) (λ x. ⊎_elim (λ p. p) (λ q. absurd (never x q))) (held_in (cell_at t j)) h

  offers-then : (t u v : List ℤ) (Q R : ℤ → Type 0) → Offers w t u j Q → Offers w u v j R → Offers w t v j (λ x. Q x ⊎ R x)
  offers-then t u v Q R a b P h =
      IsBest_iff (weighting_of w).order
      (λ x. ⊎_elim (⊎_elim inl (λ q. inr (inl q))) (λ r. inr (inr r)))
      (λ x. ⊎_elim (λ p. inl (inl p)) (⊎_elim (λ q. inl (inr q)) inr))
      (held_in (cell_at v j)) (b (λ x. P x ⊎ Q x) (a P h))

  offers-as : (t u : List ℤ) (Q R : ℤ → Type 0) → ((x : ℤ) → Q x → R x) → ((x : ℤ) → R x → Q x) → Offers w t u j Q → Offers w t u j R
  offers-as t u Q R to from a P h =
      IsBest_iff (weighting_of w).order
      (λ x. ⊎_elim inl (λ q. inr (to x q)))
      (λ x. ⊎_elim inl (λ r. inr (from x r)))
      (held_in (cell_at u j)) (a P h)

  -- one worth offered to cell a
  offers-one : (t : List ℤ) (a : ℕ) (x : ℤ) → j < length t → (x ≡ mark → ⊥) → Offers w t (offered w t a x) j (λ y. (j ≡ a) × (y ≡ x))
  offers-one t a x low worth P h = by (eqb j a) refl
    where
      y : ℤ
      y = cell_of (choose (weighting_of w).order (held_in (cell_at t a)) x)

      by : (b : Bool) → eqb j a ≡ b → IsBest (weighting_of w).order (λ z. P z ⊎ ((j ≡ a) × (z ≡ x))) (held_in (cell_at (set t a y) j))
      by true e =
          let f : j ≡ a = eqb-true j a e in
          let same : cell_at (set t a y) j ≡ cell_of (choose (weighting_of w).order (held_in (cell_at t j)) x) = rw (← f) (get_or-set_same t j (cell_of (choose (weighting_of w).order (held_in (cell_at t j)) x)) (pos 0) low) in
          let held = held_in-cell_of (choose (weighting_of w).order (held_in (cell_at t j)) x) (choose_no_mark (weighting_of w).order (held_in (cell_at t j)) x (held_in_no_mark (cell_at t j)) worth) in
          rw (same, held)
          (IsBest_iff (weighting_of w).order (λ z. ⊎_elim inl (λ q. inr (f, q))) (λ z. ⊎_elim inl (λ (q : (j ≡ a) × (z ≡ x)). inr q.1)) (choose (weighting_of w).order (held_in (cell_at t j)) x) (choose_best (weighting_of w).order P (held_in (cell_at t j)) x h))
      by false e =
          let f = eqb-false j a e in
          rw (get_or-set_other t a j y (pos 0) f)
          (IsBest_iff (weighting_of w).order (λ z p. inl p) (λ z. ⊎_elim (λ p. p) (λ (q : (j ≡ a) × (z ≡ x)). absurd (f q.0))) (held_in (cell_at t j)) h)

-- one of the first n has it
record Any (n : ℕ) (Q : ℕ → ℤ → Type 0) (x : ℤ) : Type 0 where
  which : ℕ
  low : which < n
  has : Q which x

-- a loop whose turns leave the cells below b as they were
module _ (w : Weighing) (j b : ℕ) (f : ℕ → List ℤ → List ℤ) (kept : (i : ℕ) (t : List ℤ) → Kept b t (f i t)) (Q : ℕ → ℤ → Type 0) (t : List ℤ) where
  offers-each : (m : ℕ) → ((i : ℕ) (u : List ℤ) → i < m → Kept b t u → Offers w u (f i u) j (Q i)) → Offers w t (each f m t) j (Any m Q)
  unfolding each
  offers-each zero h = offers-none w j t (Any zero Q) (λ x p. let z = p.low in omega arith)
  offers-each (suc m) h =
      offers-as w j t (f m (each f m t)) (λ x. Any m Q x ⊎ Q m x) (Any (suc m) Q)
      (λ x. ⊎_elim (λ p. record { which = p.which; low = (let z = p.low in omega arith); has = p.has }) (λ q. record { which = m; low = omega arith; has = q }))
      (λ x p. split x p (ltb p.which m) refl)
      (offers-then w j t (each f m t) (f m (each f m t)) (Any m Q) (Q m)
      (offers-each m (λ i u l. h i u (omega arith)))
      (h m (each f m t) (omega arith) (kept-each b f kept m t)))
    where
      split : (x : ℤ) (p : Any (suc m) Q x) (c : Bool) → ltb p.which m ≡ c → Any m Q x ⊎ Q m x
      split x p true q = inl (record { which = p.which; low = ltb-true p.which m q; has = p.has })
      split x p false q =
          let z = p.low in
          let y = ltb-false p.which m q in
          let e : p.which ≡ m = omega arith in
          inr (subst (λ (i : ℕ). Q i x) e p.has)

-- ---- what is held

pub not-held : {z x : ℤ} → z ≡ mark → held_in z ≡ some x → ⊥
not-held {z} {x} e h = none-ne-some x (sym held_in-mark ∙ ap held_in (sym e) ∙ h)

pub true-false : {b : Bool} → b ≡ true → b ≡ false → ⊥
true-false p q = let n : ◌≡◌ {A = ℕ} 0 1 = cc in omega arith

-- ---- one worth

-- x, with these clocks after the tick, lands along e on cell j as y
record Lands (l : Layout) (e : Edge) (to : ℕ) (cs : Clocks) (x : ℤ) (j : ℕ) (y : ℤ) : Type 0 where
  goes : guards_hold cs e ≡ true
  lands : j ≡ to + code_of l.radices (after_resets e cs)
  is : y ≡ x

-- the same along edge i, if it leaves p
record Leaves (l : Layout) (es : List Edge) (n p : ℕ) (cs : Clocks) (x : ℤ) (j i : ℕ) (y : ℤ) : Type 0 where
  from : (edge_in es i).from ≡ p
  lands : Lands l (edge_in es i) (block_at l (n + 1) 0 (edge_in es i).to) cs x j y

module _ (l : Layout) (w : Weighing) (cs : Clocks) (x : ℤ) (j : ℕ) (worth : x ≡ mark → ⊥) where
  moved-offers : (e : Edge) (to : ℕ) (t : List ℤ) → j < length t → Offers w t (moved l w e to cs x t) j (Lands l e to cs x j)
  unfolding moved
  moved-offers e to t low = by (guards_hold cs e) refl
    where
      by : (b : Bool) → guards_hold cs e ≡ b → Offers w t (cond b (offered w t (to + code_of l.radices (after_resets e cs)) x) t) j (Lands l e to cs x j)
      by false q = offers-none w j t (Lands l e to cs x j) (λ y o. true-false o.goes q)
      by true q =
          offers-as w j t (offered w t (to + code_of l.radices (after_resets e cs)) x) (λ y. (j ≡ to + code_of l.radices (after_resets e cs)) × (y ≡ x)) (Lands l e to cs x j)
          (λ y p. record { goes = q; lands = p.0; is = p.1 })
          (λ y o. (o.lands, o.is))
          (offers-one w j t (to + code_of l.radices (after_resets e cs)) x low worth)

  module _ (es : List Edge) (n p : ℕ) where
    leave_offers : (i : ℕ) (t : List ℤ) → j < length t → Offers w t (leave_of l w n p cs x (edge_in es i) t) j (Leaves l es n p cs x j i)
    unfolding leave_of
    leave_offers i t low = by (eqb (edge_in es i).from p) refl
      where
        by : (b : Bool) → eqb (edge_in es i).from p ≡ b → Offers w t (cond b (moved l w (edge_in es i) (block_at l (n + 1) 0 (edge_in es i).to) cs x t) t) j (Leaves l es n p cs x j i)
        by false q = offers-none w j t (Leaves l es n p cs x j i) (λ y o. eqb-false (edge_in es i).from p q o.from)
        by true q =
            offers-as w j t (moved l w (edge_in es i) (block_at l (n + 1) 0 (edge_in es i).to) cs x t) (Lands l (edge_in es i) (block_at l (n + 1) 0 (edge_in es i).to) cs x j) (Leaves l es n p cs x j i)
            (λ y o. record { from = eqb-true (edge_in es i).from p q; lands = o })
            (λ y o. o.lands)
            (moved-offers (edge_in es i) (block_at l (n + 1) 0 (edge_in es i).to) t low)

    spread_offers : (count : ℕ) (t : List ℤ) → j < length t → Offers w t (spread_of l w es count n p cs x t) j (λ y. Lands l (still p) (block_at l (n + 1) 1 p) cs x j y ⊎ Any count (Leaves l es n p cs x j) y)
    unfolding spread_of
    spread_offers count t low =
        offers-then w j t u (leaves_of l w es n p cs x count u) (Lands l (still p) (block_at l (n + 1) 1 p) cs x j) (Any count (Leaves l es n p cs x j))
        (moved-offers (still p) (block_at l (n + 1) 1 p) t low)
        (offers-each w j ((n + 1) * l.row) (λ i. leave_of l w n p cs x (edge_in es i)) (λ i. leave_kept l w n p cs x (edge_in es i)) (Leaves l es n p cs x j) u count
        (λ i z h k. leave_offers i z (let e = k.long in let f = kept.long in omega arith)))
      where
        u : List ℤ
        u = moved l w (still p) (block_at l (n + 1) 1 p) cs x t

        kept : Kept ((n + 1) * l.row) t u
        kept = turn-kept l w n (still p) 1 cs x t

-- ---- one cell, a block

-- cell k of the block at `at`, in place p, offers it: by staying, or along an edge out of p
record Leads (l : Layout) (w : Weighing) (es : List Edge) (g : ℤ) (n p at : ℕ) (t : List ℤ) (k j i : ℕ) (x : ℤ) : Type 0 where
  from : (edge_in es i).from ≡ p
  moves : Moves l w (edge_in es i) g at (block_at l (n + 1) 0 (edge_in es i).to) t k j x

abbrev Visits : Layout → Weighing → List Edge → (count : ℕ) → ℤ → (n p at : ℕ) → List ℤ → (j k : ℕ) → ℤ → Type 0
Visits l w es count g n p at t j k x =
    Moves l w (still p) g at (block_at l (n + 1) 1 p) t k j x ⊎ Any count (Leads l w es g n p at t k j) x

module _ (l : Layout) (w : Weighing) (es : List Edge) (count : ℕ) (g : ℤ) (n p at : ℕ) (t : List ℤ) (j : ℕ) (size : nat_abs g ≤ 8000000) (gives : held_in g ≡ some g) where
  -- where a cell holds v, it offers what v lands as
  module _ (k : ℕ) (v : ℤ) (had : held_in (cell_at t (at + k)) ≡ some v) where
    to-moves : (e : Edge) (to : ℕ) (y : ℤ) → Lands l e to (ticked l.radices (clocks_at l.radices k)) ((weighting_of w).combine v g) j y → Moves l w e g at to t k j y
    to-moves e to y o = record { had = v; holds = had; gain = g; gains = gives; goes = o.goes; lands = o.lands; is = o.is }

    of_moves : (e : Edge) (to : ℕ) (y : ℤ) → Moves l w e g at to t k j y → Lands l e to (ticked l.radices (clocks_at l.radices k)) ((weighting_of w).combine v g) j y
    of_moves e to y o =
        record {
          goes = o.goes;
          lands = o.lands;
          is = o.is ∙ ap (λ (z : ℤ). (weighting_of w).combine z o.gain) (sym (some-injective v o.had (sym had ∙ o.holds)))
              ∙ ap (λ (z : ℤ). (weighting_of w).combine v z) (sym (some-injective g o.gain (sym gives ∙ o.gains)));
        }

  visit_offers : (k : ℕ) (u : List ℤ) → cell_at u (at + k) ≡ cell_at t (at + k) → Sized (2 ^ 60) (cell_at t (at + k)) → j < length u → Offers w u (visit_of l w es count g n p at k (clocks_at l.radices k) u) j (Visits l w es count g n p at t j k)
  unfolding visit_of
  visit_offers k u same sized low = by (lt_z mark (cell_at u (at + k))) refl
    where
      cs : Clocks
      cs = ticked l.radices (clocks_at l.radices k)

      v : ℤ
      v = cell_at u (at + k)

      x : ℤ
      x = (weighting_of w).combine (cell_at u (at + k)) g

      by : (a : Bool) → lt_z mark v ≡ a → Offers w u (cond a (spread_of l w es count n p cs x u) u) j (Visits l w es count g n p at t j k)
      by false m =
          let h : cell_at t (at + k) ≡ mark = sized_mark (omega arith) sized (rw same at m) in
          offers-none w j u (Visits l w es count g n p at t j k) (λ y. ⊎_elim (λ o. not-held h o.holds) (λ o. not-held h o.has.moves.holds))
      by true m =
          let small : nat_abs (cell_at u (at + k)) ≤ 2 ^ 60 = rw same (sized_in sized (rw same at m)) in
          let held : held_in (cell_at u (at + k)) ≡ some (cell_at u (at + k)) = above-mark (cell_at u (at + k)) m in
          let had : held_in (cell_at t (at + k)) ≡ some (cell_at u (at + k)) = ap held_in (sym same) ∙ held in
          let worth = small_no_mark x (omega (arith, combine-size w (cell_at u (at + k)) g)) in
          offers-as w j u (spread_of l w es count n p cs x u) (λ y. Lands l (still p) (block_at l (n + 1) 1 p) cs x j y ⊎ Any count (Leaves l es n p cs x j) y) (Visits l w es count g n p at t j k)
          (λ y. ⊎_elim (λ o. inl (to-moves k v had (still p) _ y o)) (λ o. inr (record { which = o.which; low = o.low; has = record { from = o.has.from; moves = to-moves k v had (edge_in es o.which) _ y o.has.lands } })))
          (λ y. ⊎_elim (λ o. inl (of_moves k v had (still p) _ y o)) (λ o. inr (record { which = o.which; low = o.low; has = record { from = o.has.from; lands = of_moves k v had (edge_in es o.which) _ y o.has.moves } })))
          (spread_offers l w cs x j worth es n p count u low)

  -- from any table u that has the row as t has it
  visits_offers : (m : ℕ) (u : List ℤ) → Kept ((n + 1) * l.row) t u → at + m ≤ (n + 1) * l.row → Bounded t at m → j < length t → Offers w u (visits_of l w es count g n p at m u) j (Any m (Visits l w es count g n p at t j))
  visits_offers m u kept h o low =
      offers-each w j ((n + 1) * l.row) (λ k. visit_of l w es count g n p at k (clocks_at l.radices k)) (λ k. visit_kept l w n es count g p at k (clocks_at l.radices k)) (Visits l w es count g n p at t j) u m
      (λ k z i z-kept. let both = kept_trans kept z-kept in let e = both.long in visit_offers k z (both.same (at + k) (omega arith)) (o.at k i) (omega arith))

pass_offers : (l : Layout) (w : Weighing) (es : List Edge) (count : ℕ) (g : ℤ) (n p at : ℕ) (t u : List ℤ) (j : ℕ) → Kept ((n + 1) * l.row) t u → Passing t l (record { len = n; place = p; start = at; gain = g }) → j < length t → Offers w u (pass_of l w es count g n p at u) j (Any l.block (Visits l w es count g n p at t j))
unfolding pass_of
pass_offers l w es count g n p at t u j kept a low = by (lt_z mark g) refl
  where
    by : (b : Bool) → lt_z mark g ≡ b → Offers w u (cond b (visits_of l w es count g n p at l.block u) u) j (Any l.block (Visits l w es count g n p at t j))
    by true m = visits_offers l w es count g n p at t j (sized_in a.gain m) (above-mark g m) l.block u kept a.apart a.bounded low
    by false m =
        let h : g ≡ mark = sized_mark (omega arith) a.gain m in
        offers-none w j u (Any l.block (Visits l w es count g n p at t j)) (λ x q. ⊎_elim (λ o. not-held h o.gains) (λ o. not-held h o.has.moves.gains) q.has)

-- ---- a place, a row

module _ (l : Layout) (w : Weighing) (v : View) (es : List Edge) (count n : ℕ) (t : List ℤ) (j : ℕ) where
  -- a cell of place p, of length n and this stage, offers it
  abbrev Staged : Bool → (p : ℕ) → ℤ → Type 0
  Staged b p = Any l.block (Visits l w es count (gain_at (gains_of v b) p) n p (block_at l n (stage_of b) p) t j)

  abbrev Placed : (p : ℕ) → ℤ → Type 0
  Placed p x = Staged true p x ⊎ Staged false p x

  module _ (k : Known l v es count) (r : Ready t l n) (low : j < length t) where
    place-offers : (p : ℕ) (u : List ℤ) → p < l.places → Kept ((n + 1) * l.row) t u → Offers w u (place_of l w es count (gain_at v.entered p) (gain_at v.staying p) n p u) j (Placed p)
    unfolding place_of
    place-offers p u h kept =
        offers-then w j u z (pass_of l w es count (gain_at v.staying p) n p (block_at l n 1 p) z) (Staged true p) (Staged false p)
        (pass_offers l w es count (gain_at v.entered p) n p (block_at l n 0 p) t u j kept (pass_asks t l _ n 0 p k.laid (k.entered p h) (omega arith) h r) low)
        (pass_offers l w es count (gain_at v.staying p) n p (block_at l n 1 p) t z j (kept_trans kept (pass_kept l w n es count (gain_at v.entered p) p (block_at l n 0 p) u)) (pass_asks t l _ n 1 p k.laid (k.staying p h) (omega arith) h r) low)
      where
        z : List ℤ
        z = pass_of l w es count (gain_at v.entered p) n p (block_at l n 0 p) u

    places-offers : (u : List ℤ) → Kept ((n + 1) * l.row) t u → Offers w u (places_of l w v es count n l.places u) j (Any l.places Placed)
    places-offers u kept =
        offers-each w j ((n + 1) * l.row) (λ p. place_of l w es count (gain_at v.entered p) (gain_at v.staying p) n p) (λ p. place_kept l w n es count (gain_at v.entered p) (gain_at v.staying p) p) Placed u l.places
        (λ p z h z-kept. place-offers p z h (kept_trans kept z-kept))

    -- place by place or edge by edge, a row offers the same
    to_row : (x : ℤ) → Any l.places Placed x → RowOffers l w v es count n t j x
    to_row x a = ⊎_elim (stage true a.which a.low) (stage false a.which a.low) a.has
      where
        stage : (b : Bool) (p : ℕ) → p < l.places → Staged b p x → RowOffers l w v es count n t j x
        stage b p h s =
            ⊎_elim (λ m. inl (record { which = p; low = h; follows = record { from = b; passes = record { cell = s.which; low = s.low; moves = m } } }))
            (λ m. inr (record {
              which = m.which;
              low = m.low;
              follows = record {
                from = b;
                passes = record {
                  cell = s.which;
                  low = s.low;
                  moves = subst (λ (q : ℕ). Moves l w (edge_in es m.which) (gain_at (gains_of v b) q) (block_at l n (stage_of b) q) (block_at l (n + 1) 0 (edge_in es m.which).to) t s.which j x) (sym m.has.from) m.has.moves;
                };
              };
            })) s.has

    of_row : (x : ℤ) → RowOffers l w v es count n t j x → Any l.places Placed x
    of_row x =
        ⊎_elim (λ o. record { which = o.which; low = o.low; has = staged o.follows.from o.which (record { which = o.follows.passes.cell; low = o.follows.passes.low; has = inl o.follows.passes.moves }) })
        (λ o. record {
          which = (edge_in es o.which).from;
          low = k.froms o.which o.low;
          has = staged o.follows.from (edge_in es o.which).from (record {
            which = o.follows.passes.cell;
            low = o.follows.passes.low;
            has = inr (record { which = o.which; low = o.low; has = record { from = refl; moves = o.follows.passes.moves } });
          });
        })
      where
        staged : (b : Bool) (p : ℕ) → Staged b p x → Placed p x
        staged true p s = inl s
        staged false p s = inr s

-- what is offered does not change where the row it comes from is kept
passes_kept : (l : Layout) (w : Weighing) (e : Edge) (g : ℤ) (at to n b : ℕ) (t u : List ℤ) (j : ℕ) (x : ℤ) → at + n ≤ b → ((i : ℕ) → i < b → cell_at u i ≡ cell_at t i) → Passes l w e g at to n u j x → Passes l w e g at to n t j x
passes_kept l w e g at to n b t u j x h same p =
    let m = p.moves in
    let z = p.low in
    record {
      cell = p.cell;
      low = p.low;
      moves = record {
        had = m.had;
        holds = rw (same (at + p.cell) (omega arith)) at m.holds;
        gain = m.gain;
        gains = m.gains;
        goes = m.goes;
        lands = m.lands;
        is = m.is;
      };
    }

-- the block that e leaves lies in row n
from_low : (l : Layout) (n : ℕ) (b : Bool) (p : ℕ) → Laid l → n ≤ l.high → p < l.places → block_at l n (stage_of b) p + l.block ≤ (n + 1) * l.row
from_low l n true p laid low h = omega (arith, block-low l n 0 p (record { laid = laid; low = low; stages = omega arith; place = h }), row_next n l.row)
from_low l n false p laid low h = omega (arith, block-low l n 1 p (record { laid = laid; low = low; stages = omega arith; place = h }), row_next n l.row)

follows-kept : (l : Layout) (w : Weighing) (v : View) (e : Edge) (n stage b : ℕ) (t u : List ℤ) (j : ℕ) (x : ℤ) → Laid l → n ≤ l.high → e.from < l.places → (n + 1) * l.row ≤ b → ((i : ℕ) → i < b → cell_at u i ≡ cell_at t i) → Follows l w v e n stage u j x → Follows l w v e n stage t j x
follows-kept l w v e n stage b t u j x laid low h le same q =
    let z = from_low l n q.from e.from laid low h in
    record { from = q.from; passes = passes_kept l w e _ _ _ l.block b t u j x (omega arith) same q.passes }

goes_kept : (l : Layout) (w : Weighing) (v : View) (f : ℕ → Edge) (n stage m b : ℕ) (t u : List ℤ) (j : ℕ) (x : ℤ) → Laid l → n ≤ l.high → ((i : ℕ) → i < m → (f i).from < l.places) → (n + 1) * l.row ≤ b → ((i : ℕ) → i < b → cell_at u i ≡ cell_at t i) → Goes l w v f n stage m u j x → Goes l w v f n stage m t j x
goes_kept l w v f n stage m b t u j x laid low h le same q =
    record { which = q.which; low = q.low; follows = follows-kept l w v (f q.which) n stage b t u j x laid low (h q.which q.low) le same q.follows }

-- ---- clearing

pub marked-at : (t : List ℤ) (a n i : ℕ) → a + n ≤ length t → a ≤ i → i < a + n → cell_at (marked t a n) i ≡ mark
unfolding marked
marked-at t a zero i h l m = absurd (omega arith)
marked-at t a (suc n) i h l m = by (eqb i (a + n)) refl (λ z. marked-at t a n i (omega arith) l z)
  where
    long : length (marked t a n) ≡ length t
    long = marked-long t a n

    by : (b : Bool) → eqb i (a + n) ≡ b → (i < a + n → cell_at (marked t a n) i ≡ mark) → cell_at (set (marked t a n) (a + n) mark) i ≡ mark
    by true q before =
        let e : i ≡ a + n = eqb-true i (a + n) q in
        let z = long in
        rw e (get_or-set_same (marked t a n) (a + n) mark (pos 0) (omega arith))
    by false q before =
        let e = eqb-false i (a + n) q in
        get_or-set_other (marked t a n) (a + n) i mark (pos 0) e ∙ before (omega (arith, e))

-- ---- a row

module _ (l : Layout) (w : Weighing) (v : View) (es : List Edge) (count : ℕ) (k : Known l v es count) where
  -- what a row offers depends on that row alone
  pub row-offers-kept : (n b : ℕ) (t u : List ℤ) (j : ℕ) (x : ℤ) → n ≤ l.high → (n + 1) * l.row ≤ b → ((i : ℕ) → i < b → cell_at u i ≡ cell_at t i) → RowOffers l w v es count n u j x → RowOffers l w v es count n t j x
  row-offers-kept n b t u j x low le same =
      ⊎_elim (λ q. inl (goes_kept l w v still n 1 l.places b t u j x k.laid low (λ i h. h) le same q))
      (λ q. inr (goes_kept l w v (edge_in es) n 0 count b t u j x k.laid low k.froms le same q))

  pub row_best : (n : ℕ) (t : List ℤ) (j : ℕ) → Ready t l n → (n + 1) * l.row ≤ j → j < (n + 1) * l.row + l.row → IsBest (weighting_of w).order (RowOffers l w v es count n t j) (held_in (cell_at (row_of l w v es count n t) j))
  unfolding row_of
  row_best n t j r from to =
      IsBest_iff (weighting_of w).order
      (λ x. ⊎_elim absurd (to_row l w v es count n t j k r long x))
      (λ x o. inr (of_row l w v es count n t j k r long x o))
      (held_in (cell_at (places_of l w v es count n l.places c) j))
      (places-offers l w v es count n t j k r long c kept (λ _. ⊥) nothing)
    where
      c : List ℤ
      c = cleared t ((n + 1) * l.row) ((n + 1) * l.row + l.row)

      kept : Kept ((n + 1) * l.row) t c
      kept = marked-kept ((n + 1) * l.row) t ((n + 1) * l.row) _ (omega arith)

      fits : (n + 1) * l.row + l.row ≤ length t
      fits = omega (arith, row_fits l n r.low, r.inside)

      long : j < length t
      long = let z = fits in omega arith

      is-mark : cell_at c j ≡ mark
      is-mark =
          let z = fits in
          let e : (n + 1) * l.row + l.row - (n + 1) * l.row ≡ l.row = omega arith in
          rw e (marked-at t ((n + 1) * l.row) l.row j fits from to)

      nothing : IsBest (weighting_of w).order (λ _. ⊥) (held_in (cell_at c j))
      nothing = rw (is-mark, held_in-mark) (λ x p. p)

-- ---- what moves leave as it was after them

pub record Above (b : ℕ) (t u : List ℤ) : Type 0 where
  pub same : (i : ℕ) → b ≤ i → cell_at u i ≡ cell_at t i

above-refl : {b : ℕ} {t : List ℤ} → Above b t t
above-refl = record { same = λ i h. refl }

above-trans : {b : ℕ} {t u v : List ℤ} → Above b t u → Above b u v → Above b t v
above-trans p q = record { same = λ i h. q.same i h ∙ p.same i h }

above-cond : {b : ℕ} {t u v : List ℤ} (x : Bool) → Above b t u → Above b t v → Above b t (cond x u v)
above-cond true p q = p
above-cond false p q = q

above-set : (b : ℕ) (t : List ℤ) (j : ℕ) (v : ℤ) → j < b → Above b t (set t j v)
above-set b t j v l = record { same = λ i h. get_or-set_other t j i v (pos 0) (λ e. omega arith) }

pub above-marked : (b : ℕ) (t : List ℤ) (a n : ℕ) → a + n ≤ b → Above b t (marked t a n)
unfolding marked
above-marked b t a zero l = above-refl
above-marked b t a (suc n) l = above-trans (above-marked b t a n (omega arith)) (above-set b _ (a + n) mark (omega arith))

above-each : (b : ℕ) (f : ℕ → List ℤ → List ℤ) (m : ℕ) → ((i : ℕ) (t : List ℤ) → i < m → Above b t (f i t)) → (t : List ℤ) → Above b t (each f m t)
unfolding each
above-each b f zero h t = above-refl
above-each b f (suc m) h t = above-trans (above-each b f m (λ i u l. h i u (omega arith)) t) (h m (each f m t) (omega arith))

module _ (l : Layout) (w : Weighing) (v : View) (es : List Edge) (count : ℕ) (k : Known l v es count) (n : ℕ) (low : n < l.high) where
  above-turn : (e : Edge) (stage : ℕ) (cs : Clocks) (x : ℤ) (t : List ℤ) → stage ≤ 1 → e.to < l.places → Within l.radices cs → Above ((n + 1) * l.row + l.row) t (moved l w e (block_at l (n + 1) stage e.to) cs x t)
  unfolding moved
  above-turn e stage cs x t st h i =
      let b = block-low l (n + 1) stage e.to (record { laid = k.laid; low = omega arith; stages = st; place = h }) in
      let c = (coded l (after_resets e cs) k.laid (reset-within l.radices e cs i)).whole in
      above-cond (guards_hold cs e) (above-set _ t (block_at l (n + 1) stage e.to + code_of l.radices (after_resets e cs)) _ (omega arith)) above-refl

  above_leave : (p : ℕ) (cs : Clocks) (x : ℤ) (i : ℕ) (t : List ℤ) → i < count → Within l.radices cs → Above ((n + 1) * l.row + l.row) t (leave_of l w n p cs x (edge_in es i) t)
  unfolding leave_of
  above_leave p cs x i t h m =
      above-cond (eqb (edge_in es i).from p) (above-turn (edge_in es i) 0 cs x t (omega arith) (k.tos i h) m) above-refl

  above_visit : (g : ℤ) (p at c : ℕ) (t : List ℤ) → p < l.places → Above ((n + 1) * l.row + l.row) t (visit_of l w es count g n p at c (clocks_at l.radices c) t)
  unfolding visit_of spread_of
  above_visit g p at c t h =
      let m = ticked-within l (clocks_at l.radices c) k.laid in
      above-cond (lt_z mark (cell_at t (at + c)))
      (above-trans (above-turn (still p) 1 (ticked l.radices (clocks_at l.radices c)) _ t (omega arith) h m)
      (above-each _ (λ i. leave_of l w n p (ticked l.radices (clocks_at l.radices c)) ((weighting_of w).combine (cell_at t (at + c)) g) (edge_in es i)) count (λ i u z. above_leave p (ticked l.radices (clocks_at l.radices c)) _ i u z m) _))
      above-refl

  above_pass : (g : ℤ) (p at : ℕ) (t : List ℤ) → p < l.places → Above ((n + 1) * l.row + l.row) t (pass_of l w es count g n p at t)
  unfolding pass_of
  above_pass g p at t h =
      above-cond (lt_z mark g)
      (above-each _ (λ c. visit_of l w es count g n p at c (clocks_at l.radices c)) l.block (λ c u z. above_visit g p at c u h) t)
      above-refl

  above_place : (p : ℕ) (t : List ℤ) → p < l.places → Above ((n + 1) * l.row + l.row) t (place_of l w es count (gain_at v.entered p) (gain_at v.staying p) n p t)
  unfolding place_of
  above_place p t h =
      above-trans (above_pass (gain_at v.entered p) p (block_at l n 0 p) t h) (above_pass (gain_at v.staying p) p (block_at l n 1 p) _ h)

  above-row : (t : List ℤ) → Above ((n + 1) * l.row + l.row) t (row_of l w v es count n t)
  unfolding row_of
  above-row t =
      above-trans (above-marked _ t ((n + 1) * l.row) _ (omega arith))
      (above-each _ (λ p. place_of l w es count (gain_at v.entered p) (gain_at v.staying p) n p) l.places (λ p u h. above_place p u h) _)

module _ (l : Layout) (w : Weighing) (v : View) (es : List Edge) (count : ℕ) (k : Known l v es count) where
  pub above_rows : (m : ℕ) (t : List ℤ) → m ≤ l.high → Above (m * l.row + l.row) t (rows_of l w v es count m t)
  unfolding rows_of
  above_rows zero t h = above-refl
  above_rows (suc m) t h =
      let f = suc-mul m l.row in
      let g = row_next m l.row in
      record {
        same = λ i z.
            (above_rows m (row_of l w v es count m t) (omega arith)).same i (omega arith)
            ∙ (above-row l w v es count k m (omega arith) t).same i (omega arith);
      }

  -- row n is ready where the first m rows are bounded
  ready-in : (m n : ℕ) (t : List ℤ) → cells_in l ≤ length t → Bounded t 0 (m * l.row) → n < m → m ≤ l.high → Ready t l n
  ready-in m n t inside o low short =
      let f = mul-le-mul_right {m = n + 1} {n = m} l.row (omega arith) in
      let g = row_next n l.row in
      record { inside = inside; low = omega arith; bounded = bounded-from (n * l.row) l.row o (omega arith) }

  pub rows_best : (m : ℕ) (t : List ℤ) → m ≤ l.high → cells_in l ≤ length t → Bounded t 0 (m * l.row) → (n : ℕ) → n < m → (j : ℕ) → (n + 1) * l.row ≤ j → j < (n + 1) * l.row + l.row → IsBest (weighting_of w).order (RowOffers l w v es count n t j) (held_in (cell_at (rows_of l w v es count m t) j))
  unfolding rows_of
  rows_best zero t h inside o n low j from to = absurd (omega arith)
  rows_best (suc m) t h inside o n low j from to =
      by (ltb n m) refl
      (λ z. rows_best m (row_of l w v es count m t) (omega arith) (rw (row_kept l w v es count m t).long inside) (below o) n z j from to)
    where
      u : List ℤ
      u = row_of l w v es count m t

      below : Bounded t 0 (suc m * l.row) → Bounded u 0 (m * l.row)
      below b =
          let f = suc-mul m l.row in
          let g = row_next m l.row in
          bounded-kept (row_kept l w v es count m t) (omega arith) (bounded-from 0 (m * l.row) b (omega arith))

      by : (b : Bool) → ltb n m ≡ b → (n < m → IsBest (weighting_of w).order (RowOffers l w v es count n u j) (held_in (cell_at (rows_of l w v es count m u) j))) → IsBest (weighting_of w).order (RowOffers l w v es count n t j) (held_in (cell_at (rows_of l w v es count m u) j))
      by true q before =
          let z = ltb-true n m q in
          let le : (n + 1) * l.row ≤ (m + 1) * l.row = mul-le-mul_right {m = n + 1} {n = m + 1} l.row (omega arith) in
          let kept = row_kept l w v es count m t in
          IsBest_iff (weighting_of w).order
          (λ x. row-offers-kept l w v es count k n ((m + 1) * l.row) t u j x (omega arith) le kept.same)
          (λ x. row-offers-kept l w v es count k n ((m + 1) * l.row) u t j x (omega arith) le (λ i y. sym (kept.same i y)))
          (held_in (cell_at (rows_of l w v es count m u) j))
          (before z)
      by false q before =
          let z = ltb-false n m q in
          let e : m ≡ n = omega arith in
          let f = row_next n l.row in
          let y : m * l.row ≡ n * l.row = ap (λ (x : ℕ). x * l.row) e in
          let same = (above_rows m u (omega arith)).same j (omega arith) in
          let here : cell_at u j ≡ cell_at (row_of l w v es count n t) j = ap (λ (x : ℕ). cell_at (row_of l w v es count x t) j) e in
          rw (same, here) (row_best l w v es count k n t j (ready-in (suc m) n t inside o low h) from to)
