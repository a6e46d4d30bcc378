-- The report of a tick is the walks' report one tick later: the best of what the tick offers to end places just entered, and
-- of equals the shortest.
use Prim.Native.Nat.{ℕ, zero, suc, ◌+◌, ◌-◌, ◌*◌, ◌^◌, ◌≤◌, ◌<◌}
use native.Mathlib.Omega.{arith}
use native.Mathlib.Nat.{mul-le-mul_right}
use mathlib.Core.Path.{◌≡◌, refl, sym, ap, subst, ◌∙◌}
use mathlib.Core.Bool.{Bool, true, false, cond, ◌&&◌}
use mathlib.Core.Logic.{◌⊎◌, inl, inr, ⊎_elim}
use mathlib.Core.Option.{some, some-injective}
use Rattle.std.specs.Prelude.{Option, Some, None}
use mathlib.Core.List.{List}
use borrow.Author.Tests.{eqb-true, eq-eqb, ltb-true, ltb-false, lt-ltb, le-ltb}
use lib.Dec.{T, eqb, ltb}
use lib.ListN.{get_or, replicate}
use lib.IntN.{ℤ}
use lib.Signed.{lt_z}
use Rattle.integers.proofs.Tests.{T_true, true_T, false_T}
use Rattle.weighting.specs.declared.Weighing.{Weighing}
use Rattle.weighting.specs.Order.{IsBest}
use Rattle.weighting.proofs.Weightings.{weighting_of}
use Rattle.weighting.specs.Shortest.{shortest, shortest_test}
use Rattle.weighting.specs.Cell.{mark, held_in}
use Rattle.weighting.proofs.Best.{IsBest_iff, IsBest-same}
use Rattle.weighting.proofs.Shortest.{shortest-in, shortest-out, shortest-equal}
use Rattle.weighting.proofs.Cell.{above-mark}
use Rattle.pattern.specs.declared.Edge.{Edge}
use Rattle.pattern.specs.Clocks.{Clocks, guards_hold}
use Rattle.pattern.proofs.SoundLaws.{both}
use Rattle.cells.specs.declared.Layout.{Layout}
use Rattle.cells.specs.Layout.{cells_in}
use Rattle.cells.specs.Index.{clocks_at, ticked, block_at, len_at}
use Rattle.cells.proofs.Blocks.{row_next}
use Rattle.walks.specs.Automaton.{Automaton, TickView, State}
use Rattle.walks.specs.Tables.{Table, next}
use Rattle.walks.specs.Reports.{report}
use Rattle.walks.proofs.Offers.{Offered}
use Rattle.walks.proofs.Entries.{Into, ending-in, ending-out, offers_best}
use Rattle.table.specs.declared.View.{View}
use Rattle.table.specs.declared.report.Report.{Report}
use Rattle.steps.specs.Steps.{edge_in}
use Rattle.table.specs.Moves.{cell_at, each, gain_at}
use Rattle.table.specs.Reports.{noted, told_move, told_leave, told_visit, told_visits, told_pass, told_place, told_places, tells_at, told_row, told_rows, told_of}
use Rattle.table.specs.Asks.{Sized, Known, Ticking, Bounded, Ready}
use Rattle.table.proofs.Steps.{sized_mark, pass_asks, bounded-from, whole-rows}
use Rattle.table_laws.specs.Offers.{Moves, stage_of, gains_of, Goes}
use Rattle.table_laws.specs.Meaning.{state_at, result_of, About, Seen, Viewed}
use Rattle.table_laws.specs.Claims.{ToldIsReport}
use Rattle.table_laws.proofs.Best.{not-held, true-false}
use Rattle.table_laws.proofs.States.{in-seen}
use Rattle.table_laws.proofs.Tick.{edge-state, stay-state, to-walks, of_walks}

-- ---- notes

-- the report r' is the best of what r was the best of, and of what has Q, where none of the former is shorter than n
abbrev Notes : Weighing → (r r' : Option Report) → ℕ → (ℤ × ℕ → Type 0) → Type 1
Notes w r r' n Q =
    (P : ℤ × ℕ → Type 0) → ((q : ℤ × ℕ) → P q → n ≤ q.1) → IsBest (shortest (weighting_of w).order) P (result_of r)
    → IsBest (shortest (weighting_of w).order) (λ q. P q ⊎ Q q) (result_of r')

-- q is the worth v, of length n
abbrev Here : ℤ → ℕ → ℤ × ℕ → Type 0
Here v n q = (q.0 ≡ v) × (q.1 ≡ n)

-- one of the first m has it
record Any (m : ℕ) (Q : ℕ → ℤ × ℕ → Type 0) (q : ℤ × ℕ) : Type 0 where
  which : ℕ
  low : which < m
  has : Q which q

any_split : (m : ℕ) (Q : ℕ → ℤ × ℕ → Type 0) (q : ℤ × ℕ) → Any (suc m) Q q → Any m Q q ⊎ Q m q
any_split m Q q z = by (ltb z.which m) refl
  where
    by : (b : Bool) → ltb z.which m ≡ b → Any m Q q ⊎ Q m q
    by true e = inl (record { which = z.which; low = ltb-true z.which m e; has = z.has })
    by false e =
        let y = z.low in
        let x = ltb-false z.which m e in
        let f : z.which ≡ m = omega arith in
        inr (subst (λ (i : ℕ). Q i q) f z.has)

any_more : (m : ℕ) (Q : ℕ → ℤ × ℕ → Type 0) (q : ℤ × ℕ) → Any m Q q ⊎ Q m q → Any (suc m) Q q
any_more m Q q =
    ⊎_elim (λ z. record { which = z.which; low = (let y = z.low in omega arith); has = z.has }) (λ z. record { which = m; low = omega arith; has = z })

module _ (w : Weighing) where
  notes_none : (r : Option Report) (n : ℕ) (Q : ℤ × ℕ → Type 0) → ((q : ℤ × ℕ) → Q q → ⊥) → Notes w r r n Q
  notes_none r n Q never P low h =
      IsBest_iff (shortest (weighting_of w).order) (λ q p. inl p) (λ q. ⊎_elim (λ p. p) (λ z. absurd (never q z))) (result_of r) h

  notes_then : (r r' r'' : Option Report) (n : ℕ) (Q R : ℤ × ℕ → Type 0) → ((q : ℤ × ℕ) → Q q → n ≤ q.1) → Notes w r r' n Q → Notes w r' r'' n R → Notes w r r'' n (λ q. Q q ⊎ R q)
  notes_then r r' r'' n Q R long a b P low h =
      IsBest_iff (shortest (weighting_of w).order)
      (λ q. ⊎_elim (⊎_elim inl (λ z. inr (inl z))) (λ z. inr (inr z)))
      (λ q. ⊎_elim (λ p. inl (inl p)) (⊎_elim (λ z. inl (inr z)) inr))
      (result_of r'') (b (λ q. P q ⊎ Q q) (λ q. ⊎_elim (low q) (long q)) (a P low h))

  notes_as : (r r' : Option Report) (n : ℕ) (Q R : ℤ × ℕ → Type 0) → ((q : ℤ × ℕ) → Q q → R q) → ((q : ℤ × ℕ) → R q → Q q) → Notes w r r' n Q → Notes w r r' n R
  notes_as r r' n Q R to from a P low h =
      IsBest_iff (shortest (weighting_of w).order)
      (λ q. ⊎_elim inl (λ z. inr (to q z)))
      (λ q. ⊎_elim inl (λ z. inr (from q z)))
      (result_of r') (a P low h)

  -- only where b holds
  notes_if : (b : Bool) (r r' : Option Report) (n : ℕ) (Q : ℤ × ℕ → Type 0) → (b ≡ true → Notes w r r' n Q) → Notes w r (cond b r' r) n (λ q. (b ≡ true) × Q q)
  notes_if true r r' n Q h = notes_as r r' n Q (λ q. (◌≡◌ {A = Bool} true true) × Q q) (λ q z. (refl, z)) (λ q z. z.1) (h refl)
  notes_if false r r' n Q h = notes_none r n (λ q. (◌≡◌ {A = Bool} false true) × Q q) (λ q z. true-false z.0 refl)

  notes_each : (f : ℕ → Option Report → Option Report) (Q : ℕ → ℤ × ℕ → Type 0) (n m : ℕ) (r : Option Report) → ((i : ℕ) (q : ℤ × ℕ) → Q i q → n ≤ q.1) → ((i : ℕ) (u : Option Report) → i < m → Notes w u (f i u) n (Q i)) → Notes w r (each f m r) n (Any m Q)
  unfolding each
  notes_each f Q n zero r long h = notes_none r n (Any zero Q) (λ q z. let y = z.low in omega arith)
  notes_each f Q n (suc m) r long h =
      notes_as r (f m (each f m r)) n (λ q. Any m Q q ⊎ Q m q) (Any (suc m) Q) (any_more m Q) (any_split m Q)
      (notes_then r (each f m r) (f m (each f m r)) n (Any m Q) (Q m) (λ q z. long z.which q z.has)
      (notes_each f Q n m r long (λ i u l. h i u (omega arith)))
      (h m (each f m r) (omega arith)))

  -- the new one is no worse than q, if it is at least as good as q's worth and no longer
  no_worse : (v : ℤ) (n : ℕ) (q : ℤ × ℕ) → T ((weighting_of w).order.at_least v q.0) → n ≤ q.1 → T (shortest_test (weighting_of w).order (v, n) q)
  no_worse v n q a b = shortest-in (weighting_of w).order (v, n) q (a, λ _. b)

  here-same : (v : ℤ) (n : ℕ) (q : ℤ × ℕ) → Here v n q → T (shortest_test (weighting_of w).order (v, n) q)
  here-same v n q z =
      let f = z.1 in
      no_worse v n q (subst (λ (x : ℤ). T ((weighting_of w).order.at_least v x)) (sym z.0) ((weighting_of w).order.self v)) (omega arith)

  notes_one : (r : Option Report) (v : ℤ) (n : ℕ) → Notes w r (noted w r v n) n (Here v n)
  unfolding noted
  notes_one None v n P low h = (inr (refl, refl), λ q. ⊎_elim (λ p. absurd (h q p)) (here-same v n q))
  notes_one (Some r) v n P low h = by ((weighting_of w).order.at_least v r.score) refl
    where
      new : Report
      new = record { score = v; length = n }

      by : (c : Bool) → (weighting_of w).order.at_least v r.score ≡ c → IsBest (shortest (weighting_of w).order) (λ q. P q ⊎ Here v n q) (result_of (cond c (Some new) (Some r)))
      by true g = (
        inr (refl, refl),
        λ q. ⊎_elim
            (λ p. no_worse v n q ((weighting_of w).order.through v r.score q.0 (true_T _ g) (shortest-out (weighting_of w).order (r.score, r.length) q (h.1 q p)).0) (low q p))
            (here-same v n q),
      )
      by false g = (
        inl h.0,
        λ q. ⊎_elim (h.1 q) (λ (z : Here v n q).
            let e : v ≡ q.0 = sym z.0 in
            shortest-in (weighting_of w).order (r.score, r.length) q (
              subst (λ (x : ℤ). T ((weighting_of w).order.at_least r.score x)) e ((weighting_of w).order.either v r.score (false_T _ g)),
              λ y. absurd (true-false (subst (λ (x : ℤ). (weighting_of w).order.at_least x r.score ≡ true) (sym e) (T_true _ y)) g),
            )),
      )

-- ---- edges, a cell, a block

-- x, with these clocks after the tick, goes along e, where a run may end, to length n + 1
record Goes_on (tells : List Bool) (n p : ℕ) (cs : Clocks) (x : ℤ) (e : Edge) (q : ℤ × ℕ) : Type 0 where
  from : e.from ≡ p
  goes : guards_hold cs e ≡ true
  ends : get_or tells e.to false ≡ true
  here : Here x (n + 1) q

leave_notes : (w : Weighing) (tells : List Bool) (n p : ℕ) (cs : Clocks) (x : ℤ) (e : Edge) (r : Option Report) → Notes w r (told_leave w tells n p cs x e r) (n + 1) (Goes_on tells n p cs x e)
unfolding told_leave told_move
leave_notes w tells n p cs x e r =
    notes_as w r (told_leave w tells n p cs x e r) (n + 1) (λ q. (eqb e.from p ≡ true) × ((guards_hold cs e && get_or tells e.to false ≡ true) × Here x (n + 1) q)) (Goes_on tells n p cs x e)
    (λ q z. let b = both (guards_hold cs e) (get_or tells e.to false) z.1.0 in record { from = eqb-true e.from p z.0; goes = b.0; ends = b.1; here = z.1.1 })
    (λ q z. (eq-eqb e.from p z.from, (rw (z.goes, z.ends), z.here)))
    (notes_if w (eqb e.from p) r (told_move w tells n cs x e r) (n + 1) (λ q. (guards_hold cs e && get_or tells e.to false ≡ true) × Here x (n + 1) q)
    (λ a. notes_if w (guards_hold cs e && get_or tells e.to false) r (noted w r x (n + 1)) (n + 1) (Here x (n + 1)) (λ b. notes_one w r x (n + 1))))

-- cell k of the block at `at`, of length n and place p, goes along an edge at whose end a run may end
record Leaving (l : Layout) (w : Weighing) (es : List Edge) (count : ℕ) (tells : List Bool) (g : ℤ) (n p at : ℕ) (t : List ℤ) (k : ℕ) (q : ℤ × ℕ) : Type 0 where
  which : ℕ
  low : which < count
  from : (edge_in es which).from ≡ p
  ends : get_or tells (edge_in es which).to false ≡ true
  cell : ℕ
  moves : Moves l w (edge_in es which) g at (block_at l (n + 1) 0 (edge_in es which).to) t k cell q.0
  long : q.1 ≡ n + 1

module _ (l : Layout) (w : Weighing) (es : List Edge) (count : ℕ) (tells : List Bool) (g : ℤ) (n p at : ℕ) (t : List ℤ) where
  visit_notes : held_in g ≡ some g → (k : ℕ) (r : Option Report) → Sized (2 ^ 60) (cell_at t (at + k)) → Notes w r (told_visit l w es count tells g n p at k (clocks_at l.radices k) t r) (n + 1) (Leaving l w es count tells g n p at t k)
  unfolding told_visit
  visit_notes gives k r sized = by (lt_z mark (cell_at t (at + k))) refl
    where
      cs : Clocks
      cs = ticked l.radices (clocks_at l.radices k)

      v : ℤ
      v = cell_at t (at + k)

      x : ℤ
      x = (weighting_of w).combine v g

      Q : ℕ → ℤ × ℕ → Type 0
      Q i = Goes_on tells n p cs x (edge_in es i)

      by : (b : Bool) → lt_z mark v ≡ b → Notes w r (cond b (each (λ i. told_leave w tells n p cs x (edge_in es i)) count r) r) (n + 1) (Leaving l w es count tells g n p at t k)
      by false m =
          let h : cell_at t (at + k) ≡ mark = sized_mark (omega arith) sized m in
          notes_none w r (n + 1) (Leaving l w es count tells g n p at t k) (λ q z. not-held h z.moves.holds)
      by true m =
          let held : held_in v ≡ some v = above-mark v m in
          notes_as w r (each (λ i. told_leave w tells n p cs x (edge_in es i)) count r) (n + 1) (Any count Q) (Leaving l w es count tells g n p at t k)
          (λ q z. record {
            which = z.which;
            low = z.low;
            from = z.has.from;
            ends = z.has.ends;
            cell = _;
            moves = record { had = v; holds = held; gain = g; gains = gives; goes = z.has.goes; lands = refl; is = z.has.here.0 };
            long = z.has.here.1;
          })
          (λ q z. record {
            which = z.which;
            low = z.low;
            has = record {
              from = z.from;
              goes = z.moves.goes;
              ends = z.ends;
              here = (
                z.moves.is ∙ ap (λ (y : ℤ). (weighting_of w).combine y z.moves.gain) (sym (some-injective v z.moves.had (sym held ∙ z.moves.holds)))
                    ∙ ap (λ (y : ℤ). (weighting_of w).combine v y) (sym (some-injective g z.moves.gain (sym gives ∙ z.moves.gains))),
                z.long,
              );
            };
          })
          (notes_each w (λ i. told_leave w tells n p cs x (edge_in es i)) Q (n + 1) count r (λ i q z. let y = z.here.1 in omega arith) (λ i u h. leave_notes w tells n p cs x (edge_in es i) u))

  pass_notes : (r : Option Report) → Sized 8000000 g → Bounded t at l.block → Notes w r (told_pass l w es count tells g n p at t r) (n + 1) (Any l.block (Leaving l w es count tells g n p at t))
  unfolding told_pass
  pass_notes r small sized =
      notes_as w r (told_pass l w es count tells g n p at t r) (n + 1) (λ q. (lt_z mark g ≡ true) × Any l.block (Leaving l w es count tells g n p at t) q) (Any l.block (Leaving l w es count tells g n p at t))
      (λ q z. z.1)
      (λ q z. (by q z (lt_z mark g) refl, z))
      (notes_if w (lt_z mark g) r (told_visits l w es count tells g n p at l.block t r) (n + 1) (Any l.block (Leaving l w es count tells g n p at t))
      (λ m. notes_each w (λ k. told_visit l w es count tells g n p at k (clocks_at l.radices k) t) (Leaving l w es count tells g n p at t) (n + 1) l.block r
      (λ i q z. let y = z.long in omega arith)
      (λ k u h. visit_notes (above-mark g m) k u (sized.at k h))))
    where
      by : (q : ℤ × ℕ) → Any l.block (Leaving l w es count tells g n p at t) q → (b : Bool) → lt_z mark g ≡ b → lt_z mark g ≡ true
      by q z true e = e
      by q z false e = absurd (not-held (sized_mark (omega arith) small e) z.has.moves.gains)

-- ---- a place, a row, all rows

module _ (l : Layout) (w : Weighing) (v : View) (es : List Edge) (count : ℕ) (known : Known l v es count) (t : List ℤ) where
  -- a cell of length n in place p, of either stage
  record Placed-on (tells : List Bool) (n p : ℕ) (q : ℤ × ℕ) : Type 0 where
    stage : Bool
    leaves : Any l.block (Leaving l w es count tells (gain_at (gains_of v stage) p) n p (block_at l n (stage_of stage) p) t) q

  placed-split : (tells : List Bool) (n p : ℕ) (q : ℤ × ℕ) → Placed-on tells n p q → Any l.block (Leaving l w es count tells (gain_at v.entered p) n p (block_at l n 0 p) t) q ⊎ Any l.block (Leaving l w es count tells (gain_at v.staying p) n p (block_at l n 1 p) t) q
  placed-split tells n p q z = by z.stage z.leaves
    where
      by : (b : Bool) → Any l.block (Leaving l w es count tells (gain_at (gains_of v b) p) n p (block_at l n (stage_of b) p) t) q → Any l.block (Leaving l w es count tells (gain_at v.entered p) n p (block_at l n 0 p) t) q ⊎ Any l.block (Leaving l w es count tells (gain_at v.staying p) n p (block_at l n 1 p) t) q
      by true y = inl y
      by false y = inr y

  row_notes : (tells : List Bool) (n : ℕ) (r : Option Report) → Ready t l n → Notes w r (told_places l w v es count tells n l.places t r) (n + 1) (Any l.places (Placed-on tells n))
  unfolding told_place
  row_notes tells n r ready =
      notes_each w (λ p. told_place l w es count tells (gain_at v.entered p) (gain_at v.staying p) n p t) (Placed-on tells n) (n + 1) l.places r
      (λ p q z. let y = z.leaves.has.long in omega arith)
      place_notes
    where
      place_notes : (p : ℕ) (u : Option Report) → p < l.places → Notes w u (told_place l w es count tells (gain_at v.entered p) (gain_at v.staying p) n p t u) (n + 1) (Placed-on tells n p)
      place_notes p u h =
          notes_as w u (told_place l w es count tells (gain_at v.entered p) (gain_at v.staying p) n p t u) (n + 1)
          (λ q. Any l.block (Leaving l w es count tells (gain_at v.entered p) n p (block_at l n 0 p) t) q ⊎ Any l.block (Leaving l w es count tells (gain_at v.staying p) n p (block_at l n 1 p) t) q)
          (Placed-on tells n p)
          (λ q. ⊎_elim (λ z. record { stage = true; leaves = z }) (λ z. record { stage = false; leaves = z }))
          (placed-split tells n p)
          (notes_then w u (told_pass l w es count tells (gain_at v.entered p) n p (block_at l n 0 p) t u) (told_place l w es count tells (gain_at v.entered p) (gain_at v.staying p) n p t u) (n + 1) (Any l.block (Leaving l w es count tells (gain_at v.entered p) n p (block_at l n 0 p) t)) (Any l.block (Leaving l w es count tells (gain_at v.staying p) n p (block_at l n 1 p) t))
          (λ q z. let y = z.has.long in omega arith)
          (pass_notes l w es count tells (gain_at v.entered p) n p (block_at l n 0 p) t u (known.entered p h) (pass_asks t l _ n 0 p known.laid (known.entered p h) (omega arith) h ready).bounded)
          (pass_notes l w es count tells (gain_at v.staying p) n p (block_at l n 1 p) t (told_pass l w es count tells (gain_at v.entered p) n p (block_at l n 0 p) t u) (known.staying p h) (pass_asks t l _ n 1 p known.laid (known.staying p h) (omega arith) h ready).bounded))

  -- a row below n
  abbrev Rowed : (ends : List Bool) → (low n : ℕ) → ℤ × ℕ → Type 0
  Rowed ends low n q = Any l.places (Placed-on (tells_at ends low (n + 1)) n) q

  -- from row n on up
  record Upward (ends : List Bool) (low n : ℕ) (q : ℤ × ℕ) : Type 0 where
    which : ℕ
    from : n ≤ which
    short : which < l.high
    rowed : Rowed ends low which q

  rows_best : (ends : List Bool) (low n : ℕ) (r : Option Report) → n ≤ l.high → ((m : ℕ) → m < l.high → Ready t l m) → IsBest (shortest (weighting_of w).order) (Upward ends low n) (result_of r) → IsBest (shortest (weighting_of w).order) (Upward ends low 0) (result_of (told_rows l w v es count ends low n t r))
  unfolding told_rows
  rows_best ends low zero r short ready h = h
  rows_best ends low (suc n) r short ready h =
      rows_best ends low n (told_row l w v es count ends low n t r) (omega arith) ready
      (IsBest_iff (shortest (weighting_of w).order)
      (λ q. ⊎_elim (λ z. record { which = z.which; from = (let y = z.from in omega arith); short = z.short; rowed = z.rowed }) (λ z. record { which = n; from = omega arith; short = omega arith; rowed = z }))
      (λ q z. split q z (ltb n z.which) refl)
      (result_of (told_row l w v es count ends low n t r))
      (row_notes (tells_at ends low (n + 1)) n r (ready n (omega arith)) (Upward ends low (suc n))
      (λ q z. let y = z.rowed.has.leaves.has.long in let x = z.from in omega arith)
      h))
    where
      split : (q : ℤ × ℕ) (z : Upward ends low n q) (b : Bool) → ltb n z.which ≡ b → Upward ends low (suc n) q ⊎ Rowed ends low n q
      split q z true e = inl (record { which = z.which; from = ltb-true n z.which e; short = z.short; rowed = z.rowed })
      split q z false e =
          let y = z.from in
          let x = ltb-false n z.which e in
          let f : z.which ≡ n = omega arith in
          inr (subst (λ (c : ℕ). Rowed ends low c q) f z.rowed)

-- ---- in the walks' terms

-- where a run of this length may end
tells-long : (ends : List Bool) (low m p : ℕ) → get_or (tells_at ends low m) p false ≡ true → (low ≤ m) × (get_or ends p false ≡ true)
tells-long ends low m p e = by (ltb m low) refl (e)
  where
    nowhere : (n i : ℕ) → get_or (replicate n false) i false ≡ false
    nowhere zero i = refl
    nowhere (suc n) zero = refl
    nowhere (suc n) (suc i) = nowhere n i

    by : (b : Bool) → ltb m low ≡ b → get_or (cond b (replicate 16 false) ends) p false ≡ true → (low ≤ m) × (get_or ends p false ≡ true)
    by true f h = absurd (true-false h (nowhere 16 p))
    by false f h = (ltb-false m low f, h)

long-tells : (ends : List Bool) (low m p : ℕ) → low ≤ m → get_or ends p false ≡ true → get_or (tells_at ends low m) p false ≡ true
long-tells ends low m p h e = rw (le-ltb m low h) e

module _ (l : Layout) (w : Weighing) (v : View) (es : List Edge) (count : ℕ) (starts ends : List Bool) (A : Automaton Clocks Edge) (about : About A l es count starts ends) (low : ℕ) (t : List ℤ) (a : Ticking t l v es count) (all : List (State Clocks)) (U : Table ℤ Clocks) (seen : Seen l t all U) (g : TickView ℤ) (viewed : Viewed l v g) where
  to-into : (q : ℤ × ℕ) → Upward l w v es count a.known t ends low 0 q → Into (weighting_of w) A l.high g U all low q
  to-into q z =
      let n = z.which in
      let s = z.rowed.has.stage in
      let y = z.rowed.has.leaves in
      let x = y.has in
      let f = x.from in
      let m : Moves l w (edge_in es x.which) (gain_at (gains_of v s) (edge_in es x.which).from) (block_at l z.which (stage_of s) (edge_in es x.which).from) (block_at l (z.which + 1) 0 (edge_in es x.which).to) t y.which x.cell q.0 = rw f x.moves in
      let o : Goes l w v (edge_in es) z.which 0 count t x.cell q.0 = record { which = x.which; low = x.low; follows = record { from = s; passes = record { cell = y.which; low = y.low; moves = m } } } in
      let e = edge-state l w v es count starts ends A about a.known t all U seen g viewed z.which x.cell q.0 z.short o in
      let b = tells-long ends low (z.which + 1) (edge_in es x.which).to x.ends in
      let len = e.1 in
      let long = b.0 in
      let size = x.long in
      let at_end : A.is_end (state_at l x.cell).place ≡ true = ap A.is_end e.3 ∙ about.ends_are (edge_in es x.which).to ∙ rw (lt-ltb (edge_in es x.which).to l.places (a.known.tos x.which x.low), b.1) in
      record {
        there = state_at l x.cell;
        is_a_cell = seen.listed x.cell e.0;
        may_end = ending-in A low (state_at l x.cell) e.2 (true_T _ at_end) (omega arith);
        offered = to-walks l w v es count starts ends A about a.known t all U seen g viewed z.which x.cell q.0 z.short (inr o);
        len_is = omega arith;
      }

  of_into : (q : ℤ × ℕ) → 1 ≤ low → Into (weighting_of w) A l.high g U all low q → Upward l w v es count a.known t ends low 0 q
  of_into q some-low z =
      ⊎_elim
      (λ y. absurd (true-false just_entered (stay-state l w v es count starts ends A about a.known t all U seen g viewed n j q.0 short y)))
      edge
      (of_walks l w v es count starts ends A about a.known t all U seen g viewed n j q.0 c.1 len offer)
    where
      c : (i : ℕ) × (i < cells_in l) × (z.there ≡ state_at l i)
      c = seen.only z.there z.is_a_cell

      j : ℕ
      j = c.0

      e : (z.there.entered ≡ true) × T (A.is_end z.there.place) × (low ≤ z.there.len)
      e = ending-out A low z.there z.may_end

      n : ℕ
      n = z.there.len - 1

      up : z.there.len ≡ suc n
      up = let y = e.2 in omega arith

      len : len_at l j ≡ suc n
      len = sym (ap (λ (s : State Clocks). s.len) c.2) ∙ up

      short : n < l.high
      short = let y = (in-seen l a.known.laid t all U seen z.there z.is_a_cell).short in let x = up in omega arith

      just_entered : (state_at l j).entered ≡ true
      just_entered = sym (ap (λ (s : State Clocks). s.entered) c.2) ∙ e.0

      offer : Offered (weighting_of w) A l.high g U all (state_at l j) q.0
      offer = subst (λ (s : State Clocks). Offered (weighting_of w) A l.high g U all s q.0) c.2 z.offered

      edge : Goes l w v (edge_in es) n 0 count t j q.0 → Upward l w v es count a.known t ends low 0 q
      edge o =
          let f = o.follows in
          let to = (edge-state l w v es count starts ends A about a.known t all U seen g viewed n j q.0 short o).3 in
          let place : z.there.place ≡ (edge_in es o.which).to = ap (λ (s : State Clocks). s.place) c.2 ∙ to in
          let b = both (ltb (edge_in es o.which).to l.places) (get_or ends (edge_in es o.which).to false) (sym (about.ends_are (edge_in es o.which).to) ∙ ap A.is_end (sym place) ∙ T_true _ e.1) in
          let long = e.2 in
          let size = z.len_is in
          let x = up in
          record {
            which = n;
            from = omega arith;
            short = short;
            rowed = record {
              which = (edge_in es o.which).from;
              low = a.known.froms o.which o.low;
              has = record {
                stage = f.from;
                leaves = record {
                  which = f.passes.cell;
                  low = f.passes.low;
                  has = record {
                    which = o.which;
                    low = o.low;
                    from = refl;
                    ends = long-tells ends low (n + 1) (edge_in es o.which).to (omega arith) b.1;
                    cell = j;
                    moves = f.passes.moves;
                    long = omega arith;
                  };
                };
              };
            };
          }

pub told-is-report : (l : Layout) (w : Weighing) (v : View) (es : List Edge) (count : ℕ) (starts ends : List Bool) → ToldIsReport l w v es count starts ends
told-is-report l w v es count starts ends A about Q low some-low t a all U seen g viewed =
    IsBest-same (shortest (weighting_of w).order) (shortest-equal (weighting_of w).order (weighting_of w).equal) (Into (weighting_of w) A l.high g U all low)
    (result_of (told_of l w v es count ends low t)) (report (weighting_of w) A low all (next (weighting_of w) A Q l.high all g U))
    (IsBest_iff (shortest (weighting_of w).order)
    (to-into l w v es count starts ends A about low t a all U seen g viewed)
    (λ q. of_into l w v es count starts ends A about low t a all U seen g viewed q some-low)
    (result_of (told_of l w v es count ends low t))
    (rows_best l w v es count a.known t ends low l.high None (omega arith) ready (λ q z. let x = z.from in let y = z.short in omega arith)))
    (offers_best (weighting_of w) A Q l.high all g U low some-low)
  where
    ready : (m : ℕ) → m < l.high → Ready t l m
    ready m h =
        let r = whole-rows t l a.known.laid a.whole in
        let f = row_next m l.row in
        let k = mul-le-mul_right {m = m + 1} {n = l.high} l.row (omega arith) in
        record { inside = r.inside; low = h; bounded = bounded-from (m * l.row) l.row r.bounded (omega arith) }
