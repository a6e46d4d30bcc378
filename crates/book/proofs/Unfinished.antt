-- Unfinished runs on a book are what the pattern's automaton reaches, tick by tick, with the same worths.
use Prim.Native.Nat.{ℕ, zero, suc, ◌+◌, ◌≤◌}
use native.Mathlib.Omega.{arith}
use mathlib.Core.Path.{◌≡◌, refl, sym, ap, subst, ◌∙◌}
use mathlib.Core.List.{List, [], ◌∷◌, ◌++◌}
use mathlib.Core.Option.{Option, none, some, some-injective, none-ne-some}
use mathlib.Core.Bool.{Bool, true, false, cond}
use lib.Dec.{T, eqb}
use lib.ListN.{length}
use lib.IntN.{ℤ}
use Rattle.integers.proofs.Tests.{T_true, true_T}
use Rattle.weighting.specs.Weighting.{Weighting, combine_from, combine_all}
use Rattle.weighting.proofs.Weightings.{weighting_of}
use Rattle.weighting.proofs.Worths.{combine_all_snoc, combine_all-one}
use Rattle.pattern.specs.declared.Edge.{Edge}
use Rattle.pattern.specs.declared.Pattern.{Pattern}
use Rattle.pattern.specs.Sound.{sound_of}
use Rattle.pattern.specs.InUse.{place_at, edge_at}
use Rattle.pattern.specs.Kinds as kinds
use Rattle.pattern.specs.Clocks.{Clocks, zero_clocks, later, guards_hold, after_resets}
use Rattle.record.specs.Record.{Book}
use Rattle.record.specs.Joined.{joined, observed}
use Rattle.record.specs.Run.{Step, can_step, clocks_after, length_of}
use Rattle.record.specs.Worth.{stay_worth, stay_worths}
use Rattle.walks.specs.Automaton.{State, entering, stayed, taken}
use Rattle.walks.specs.Walks.{Takes, Move, stays, takes, Reach, held, begin, move}
use Rattle.walks.specs.Runs as walk
use Rattle.walks.specs.Runs.{Leg, stay_gains, together}
use Rattle.walks.specs.Tables.{opening}
use Rattle.walks.proofs.States.{opening-holds}
use Rattle.walks.proofs.Gains.{not_first, stay-more}
use Rattle.walks.proofs.RunToWalk.{of_together, begins}
use Rattle.walks.proofs.RunsAreWalks.{runs_are_walks}
use Rattle.book.specs.Automaton.{automaton_of, same_clocks}
use Rattle.book.specs.View.{gain_in, sample_at, before, view_of}
use Rattle.book.specs.Unfinished.{led_to, standing, worth_so_far, Unfinished}
use Rattle.book.specs.Claims.{UnfinishedAreReached, RunsWereUnfinished}
use Rattle.book.proofs.StayGains.{gains_are_worths, all-worth, stay-together}
use Rattle.book.proofs.Runs.{add-zeros, after-later, plain, leg, step_of, priced_are_runs}

-- ---- clocks, a tick more

tick-more : (n : ℕ) (cs : Clocks) → later (suc n) cs ≡ later 1 (later n cs)
tick-more n [] = refl
tick-more n (c ∷ cs) = let e : c + suc n ≡ c + n + 1 = omega arith in rw (e, tick-more n cs)

-- ---- one step more at the end

length_snoc : (xs : List Step) (x : Step) → length_of (xs ++ (x ∷ [])) ≡ length_of xs + x.stay
unfolding length_of
length_snoc [] x = omega arith
length_snoc (y ∷ xs) x = let e = length_snoc xs x in omega arith

worths_snoc : (p : Pattern) (b : Book) (t : ℕ) (xs : List Step) (x : Step)
    → stay_worths p b t (xs ++ (x ∷ [])) ≡ stay_worths p b t xs ++ (stay_worth p b (edge_at p x.edge).from (t + length_of xs) x.stay ∷ [])
unfolding stay_worths length_of
worths_snoc p b t [] x = let e : t + 0 ≡ t = omega arith in rw e
worths_snoc p b t (y ∷ xs) x =
    let e : t + (y.stay + length_of xs) ≡ t + y.stay + length_of xs = omega arith in
    rw (e, worths_snoc p b (t + y.stay) xs x)

-- the first step can be made, and the others from where it leads
led_parts : (p : Pattern) (k : ℕ) (cs : Clocks) (x : Step) (xs : List Step) (there : ℕ × Clocks) → led_to p k cs (x ∷ xs) ≡ some there
    → (can_step p k cs x ≡ true) × (led_to p (edge_at p x.edge).to (clocks_after p cs x) xs ≡ some there)
unfolding led_to
led_parts p k cs x xs there e = by (can_step p k cs x) e
  where
    rest : Option (ℕ × Clocks)
    rest = led_to p (edge_at p x.edge).to (clocks_after p cs x) xs

    by : (t : Bool) → cond t rest none ≡ some there → (t ≡ true) × (rest ≡ some there)
    by true e = (refl, e)
    by false e = absurd (none-ne-some there e)

led_snoc : (p : Pattern) (k : ℕ) (cs : Clocks) (xs : List Step) (x : Step) (there : ℕ × Clocks) → led_to p k cs xs ≡ some there
    → can_step p there.0 there.1 x ≡ true
    → led_to p k cs (xs ++ (x ∷ [])) ≡ some ((edge_at p x.edge).to, clocks_after p there.1 x)
unfolding led_to
led_snoc p k cs [] x there e h =
    let z : (k, cs) ≡ there = some-injective (k, cs) there e in
    let c : can_step p k cs x ≡ true = ap (λ (q : ℕ × Clocks). can_step p q.0 q.1 x) z ∙ h in
    rw c (ap (λ (q : ℕ × Clocks). some ((edge_at p x.edge).to, clocks_after p q.1 x)) z)
led_snoc p k cs (y ∷ xs) x there e h =
    let a = led_parts p k cs y xs there e in
    rw a.0 (led_snoc p (edge_at p y.edge).to (clocks_after p cs y) xs x there a.1 h)

module _ (p : Pattern) (b : Book) where
  abbrev 𝓦 : Weighting ℤ
  𝓦 = weighting_of p.weighing

  -- what tick t gains in place k
  abbrev gain : ℕ → Bool → ℕ → ℤ
  gain t f k = gain_in p.weighing (place_at p k) (before p b t) (sample_at b t) f

  -- ---- a stay of no tick, and one of a tick more

  stay_none : (k t : ℕ) → stay_worth p b k t 0 ≡ 𝓦.unit
  unfolding stay_worth observed joined combine_from
  stay_none k t = refl

  stay_grows : (k t n : ℕ) → t + suc n ≤ length b → stay_worth p b k t (suc n) ≡ 𝓦.combine (stay_worth p b k t n) (gain (t + n) (eqb n 0) k)
  stay_grows k t n h =
      let l = of_together 𝓦 (stay_gains (view_of p b) true t k n) (stay_worth p b k t n) (stay-together p b k t n (omega arith)) in
      let e = stay-more (view_of p b) n true t k l.0 (gain (t + n) (eqb n 0) k) l.1 (seen n) in
      some-injective _ _ (sym (stay-together p b k t (suc n) h) ∙ ap (together 𝓦) e ∙ ap some (combine_all_snoc 𝓦 l.0 (gain (t + n) (eqb n 0) k)))
      ∙ ap (λ (w : ℤ). 𝓦.combine w (gain (t + n) (eqb n 0) k)) l.2
    where
      seen : (n : ℕ) → view_of p b (t + n) (cond (eqb n 0) true false) k ≡ some (gain (t + n) (eqb n 0) k)
      seen zero = refl
      seen (suc n) = rw (not_first n)

  stay-worth : (k t n : ℕ) → T (𝓦.worth (stay_worth p b k t n))
  unfolding stay_worth
  stay-worth k t n = all-worth p.weighing _

  -- a tick more, after whatever steps
  so_far_grows : (t : ℕ) (xs : List Step) (k n : ℕ) → t + (length_of xs + suc n) ≤ length b
      → worth_so_far p b t xs k (suc n) ≡ 𝓦.combine (worth_so_far p b t xs k n) (gain (t + (length_of xs + n)) (eqb n 0) k)
  unfolding worth_so_far
  so_far_grows t xs k n h =
      let z : t + length_of xs + n ≡ t + (length_of xs + n) = omega arith in
      combine_all_snoc 𝓦 (stay_worths p b t xs) (stay_worth p b k (t + length_of xs) (suc n))
      ∙ ap (𝓦.combine (combine_all 𝓦 (stay_worths p b t xs))) (stay_grows k (t + length_of xs) n (omega arith) ∙ ap (λ (i : ℕ). 𝓦.combine (stay_worth p b k (t + length_of xs) n) (gain i (eqb n 0) k)) z)
      ∙ sym (𝓦.assoc (combine_all 𝓦 (stay_worths p b t xs)) (stay_worth p b k (t + length_of xs) n) (gain (t + (length_of xs + n)) (eqb n 0) k))
      ∙ ap (λ (w : ℤ). 𝓦.combine w (gain (t + (length_of xs + n)) (eqb n 0) k)) (sym (combine_all_snoc 𝓦 (stay_worths p b t xs) (stay_worth p b k (t + length_of xs) n)))

  -- an edge taken adds nothing to the stay before it
  so_far-edge : (t : ℕ) (xs : List Step) (x : Step) (k : ℕ) → worth_so_far p b t (xs ++ (x ∷ [])) k 0 ≡ worth_so_far p b t xs (edge_at p x.edge).from x.stay
  unfolding worth_so_far
  so_far-edge t xs x k =
      let ws : List ℤ = stay_worths p b t xs ++ (stay_worth p b (edge_at p x.edge).from (t + length_of xs) x.stay ∷ []) in
      combine_all_snoc 𝓦 (stay_worths p b t (xs ++ (x ∷ []))) (stay_worth p b k (t + length_of (xs ++ (x ∷ []))) 0)
      ∙ ap (𝓦.combine (combine_all 𝓦 (stay_worths p b t (xs ++ (x ∷ []))))) (stay_none k (t + length_of (xs ++ (x ∷ []))))
      ∙ 𝓦.unit_right (combine_all 𝓦 (stay_worths p b t (xs ++ (x ∷ [])))) (all-worth p.weighing (stay_worths p b t (xs ++ (x ∷ []))))
      ∙ ap (combine_all 𝓦) (worths_snoc p b t xs x)

  so_far-none : (t k : ℕ) → worth_so_far p b t [] k 0 ≡ 𝓦.unit
  unfolding worth_so_far stay_worths
  so_far-none t k = rw (stay_none k (t + length_of [])) (combine_all-one 𝓦 𝓦.unit 𝓦.unit_worth)

  module _ (sound : sound_of p ≡ true) (high : ℕ) where
    abbrev R : ℕ → State Clocks → ℤ → Type 0
    R = Reach 𝓦 (automaton_of p) (view_of p b) high (opening 𝓦 (automaton_of p) same_clocks)

    -- ---- what is reached is an unfinished run

    fresh : (n k : ℕ) → T (kinds.is_start (place_at p k).kind) → Unfinished p b n (entering (automaton_of p) k) 𝓦.unit
    unfolding led_to length_of
    fresh n k h =
        record {
          begin = n;
          first = k;
          starts = T_true _ h;
          steps = [];
          there = (k, zero_clocks);
          leads = refl;
          stay = 0;
          lasts = omega arith;
          state = refl;
          is_worth = so_far-none n k;
        }

    module _ (n : ℕ) (low : suc n ≤ length b) (s : State Clocks) (w g : ℤ) (u : Unfinished p b n s w) (gained : view_of p b n s.entered s.place ≡ some g) where
      abbrev k : ℕ
      k = u.there.0

      abbrev cs : Clocks
      cs = u.there.1

      -- the worth after the tick
      after-tick : worth_so_far p b u.begin u.steps k (suc u.stay) ≡ 𝓦.combine w g
      after-tick =
          let z = u.lasts in
          let q : gain n (eqb u.stay 0) k ≡ g = some-injective _ g (ap (λ (y : State Clocks). view_of p b n y.entered y.place) u.state ∙ gained) in
          so_far_grows u.begin u.steps k u.stay (omega arith)
          ∙ rw (u.is_worth, z, q)

      stayed-on : Unfinished p b (suc n) (stayed (automaton_of p) s) (𝓦.combine w g)
      stayed-on =
          let z = u.lasts in
          let e : length_of u.steps + suc u.stay ≡ suc (length_of u.steps + u.stay) = omega arith in
          let grown : standing u.steps u.there (suc u.stay) ≡ stayed (automaton_of p) (standing u.steps u.there u.stay) =
          λ i. record { len = e i; entered = not_first u.stay i; place = k; clocks = tick-more u.stay cs i } in
          record {
            begin = u.begin;
            first = u.first;
            starts = u.starts;
            steps = u.steps;
            there = u.there;
            leads = u.leads;
            stay = suc u.stay;
            lasts = omega arith;
            state = grown ∙ ap (stayed (automaton_of p)) u.state;
            is_worth = after-tick;
          }

      module _ (e : Edge) (t : Takes (automaton_of p) s e) where
        -- the stay and the edge as a step
        leaving : Leg (automaton_of p) k cs (record { edge = e; stay = suc u.stay })
        leaving =
            let there : Takes (automaton_of p) (standing u.steps u.there u.stay) e = subst (λ (y : State Clocks). Takes (automaton_of p) y e) (sym u.state) t in
            record {
              known = there.known;
              fits = there.fits;
              stays = omega arith;
              guarded = rw (after-later p (suc u.stay) cs, tick-more u.stay cs) there.guarded;
            }

        took : Unfinished p b (suc n) (taken (automaton_of p) e s) (𝓦.combine w g)
        took = go (step_of p sound k cs (record { edge = e; stay = suc u.stay }) leaving)
          where
            go : (x : Step) × (plain p sound x ≡ record { edge = e; stay = suc u.stay }) × (can_step p k cs x ≡ true) → Unfinished p b (suc n) (taken (automaton_of p) e s) (𝓦.combine w g)
            go r =
                let x : Step = r.0 in
                let is : edge_at p x.edge ≡ e = ap (λ (y : walk.Step Edge). y.edge) r.1 in
                let long : x.stay ≡ suc u.stay = ap (λ (y : walk.Step Edge). y.stay) r.1 in
                let from : (edge_at p x.edge).from ≡ k = (leg p sound k cs x r.2).fits in
                let z = u.lasts in
                let m = length_snoc u.steps x in
                let l : length_of (u.steps ++ (x ∷ [])) + 0 ≡ suc (length_of u.steps + u.stay) = omega arith in
                let c : later 0 (clocks_after p cs x) ≡ after_resets e (later 1 (later u.stay cs)) =
                add-zeros (clocks_after p cs x) ∙ rw (is, long, tick-more u.stay cs) in
                let grown : standing (u.steps ++ (x ∷ [])) ((edge_at p x.edge).to, clocks_after p cs x) 0 ≡ taken (automaton_of p) e (standing u.steps u.there u.stay) =
                λ i. record { len = l i; entered = true; place = (is i).to; clocks = c i } in
                record {
                  begin = u.begin;
                  first = u.first;
                  starts = u.starts;
                  steps = u.steps ++ (x ∷ []);
                  there = ((edge_at p x.edge).to, clocks_after p cs x);
                  leads = led_snoc p u.first zero_clocks u.steps x u.there u.leads r.2;
                  stay = 0;
                  lasts = omega arith;
                  state = grown ∙ ap (taken (automaton_of p) e) u.state;
                  is_worth = so_far-edge u.begin u.steps x (edge_at p x.edge).to ∙ rw (from, long) after-tick;
                }

    pub is_unfinished : {n : ℕ} {s : State Clocks} {w : ℤ} → R n s w → n ≤ length b → Unfinished p b n s w
    is_unfinished (held {s = s} {w = w} e) h =
        let k = opening-holds 𝓦 (automaton_of p) same_clocks s w e in
        rw k.2 (subst (λ (y : State Clocks). Unfinished p b 0 y 𝓦.unit) (sym k.1) (fresh 0 s.place k.0))
    is_unfinished (begin {n = n} {p = k} t) h = fresh (suc n) k t
    is_unfinished (move {n = n} {s = s} {x = x} {w = w} {g = g} r e m) h = go (is_unfinished r (omega arith)) m
      where
        go : Unfinished p b n s w → {y : State Clocks} → Move (automaton_of p) high s y → Unfinished p b (suc n) y (𝓦.combine w g)
        go u (stays l) = stayed-on n h s w g u e
        go u (takes {e = d} l t) = took n h s w g u e d t

    -- ---- an unfinished run is reached

    -- just entered
    abbrev just : (len k : ℕ) → Clocks → State Clocks
    just len k cs = record { len = len; entered = true; place = k; clocks = cs }

    -- n ticks into the stay
    abbrev into : (len k : ℕ) → Clocks → (n : ℕ) → State Clocks
    into len k cs n = record { len = len + n; entered = eqb n 0; place = k; clocks = later n cs }

    stays_on : (n m len k : ℕ) (cs : Clocks) (v : ℤ) → R m (just len k cs) v → T (𝓦.worth v) → len + n ≤ high → m + n ≤ length b
        → R (m + n) (into len k cs n) (𝓦.combine v (stay_worth p b k m n))
    stays_on zero m len k cs v r o h l =
        let z : m + 0 ≡ m = omega arith in
        let y : len + 0 ≡ len = omega arith in
        rw (z, y, add-zeros cs, stay_none k m, 𝓦.unit_right v o) r
    stays_on (suc n) m len k cs v r o h l =
        let z : m + suc n ≡ suc (m + n) = omega arith in
        let y : len + suc n ≡ suc (len + n) = omega arith in
        let q : R (suc (m + n)) (stayed (automaton_of p) (into len k cs n)) (𝓦.combine (𝓦.combine v (stay_worth p b k m n)) (gain (m + n) (eqb n 0) k)) =
        move (stays_on n m len k cs v r o (omega arith) (omega arith)) refl (stays (omega arith)) in
        rw (z, y, not_first n, tick-more n cs, stay_grows k m n (omega arith), ← 𝓦.assoc v (stay_worth p b k m n) (gain (m + n) (eqb n 0) k)) q

    makes : (x : Step) (m len k : ℕ) (cs : Clocks) (v : ℤ) → R m (just len k cs) v → T (𝓦.worth v) → can_step p k cs x ≡ true
        → len + x.stay ≤ high → m + x.stay ≤ length b
        → R (m + x.stay) (just (len + x.stay) (edge_at p x.edge).to (clocks_after p cs x)) (𝓦.combine v (stay_worth p b k m x.stay))
    makes x m len k cs v r o c h l =
        let d = leg p sound k cs x c in
        go x.stay d.stays (rw (after-later p x.stay cs) at d.guarded) h l
      where
        e : Edge
        e = edge_at p x.edge

        go : (n : ℕ) → 1 ≤ n → T (guards_hold (later n cs) e) → len + n ≤ high → m + n ≤ length b
            → R (m + n) (just (len + n) e.to (after_resets e (later n cs))) (𝓦.combine v (stay_worth p b k m n))
        go zero a g h l = absurd (omega arith)
        go (suc n) a g h l =
            let d = leg p sound k cs x c in
            let z : m + suc n ≡ suc (m + n) = omega arith in
            let y : len + suc n ≡ suc (len + n) = omega arith in
            let t : Takes (automaton_of p) (into len k cs n) e = record { known = d.known; fits = d.fits; guarded = rw (tick-more n cs) at g } in
            let q : R (suc (m + n)) (taken (automaton_of p) e (into len k cs n)) (𝓦.combine (𝓦.combine v (stay_worth p b k m n)) (gain (m + n) (eqb n 0) k)) =
            move (stays_on n m len k cs v r o (omega arith) (omega arith)) refl (takes (omega arith) t) in
            rw (z, y, tick-more n cs, stay_grows k m n (omega arith), ← 𝓦.assoc v (stay_worth p b k m n) (gain (m + n) (eqb n 0) k)) q

    goes_on : (xs : List Step) (m len k : ℕ) (cs : Clocks) (v : ℤ) (there : ℕ × Clocks) → R m (just len k cs) v → T (𝓦.worth v) → led_to p k cs xs ≡ some there
        → len + length_of xs ≤ high → m + length_of xs ≤ length b
        → R (m + length_of xs) (just (len + length_of xs) there.0 there.1) (combine_from 𝓦 v (stay_worths p b m xs))
    unfolding led_to length_of stay_worths combine_from
    goes_on [] m len k cs v there r o e h l =
        let z : m + 0 ≡ m = omega arith in
        let y : len + 0 ≡ len = omega arith in
        rw (z, y) (subst (λ (q : ℕ × Clocks). R m (just len q.0 q.1) v) (some-injective (k, cs) there e) r)
    goes_on (x ∷ xs) m len k cs v there r o e h l =
        let a = led_parts p k cs x xs there e in
        let f : (edge_at p x.edge).from ≡ k = (leg p sound k cs x a.0).fits in
        let z : m + (x.stay + length_of xs) ≡ m + x.stay + length_of xs = omega arith in
        let y : len + (x.stay + length_of xs) ≡ len + x.stay + length_of xs = omega arith in
        let q = makes x m len k cs v r o a.0 (omega arith) (omega arith) in
        rw (z, y, f)
        (goes_on xs (m + x.stay) (len + x.stay) (edge_at p x.edge).to (clocks_after p cs x) (𝓦.combine v (stay_worth p b k m x.stay)) there q
        (𝓦.combine_worth v (stay_worth p b k m x.stay) o (stay-worth k m x.stay)) a.1 (omega arith) (omega arith))

    pub is-reached : (now : ℕ) (s : State Clocks) (w : ℤ) → now ≤ length b → s.len ≤ high → Unfinished p b now s w → R now s w
    unfolding worth_so_far
    is-reached now s w l h u =
        let z = u.lasts in
        let y : length_of u.steps + u.stay ≤ high = subst (λ (q : State Clocks). q.len ≤ high) (sym u.state) h in
        let r = goes_on u.steps u.begin 0 u.first zero_clocks 𝓦.unit u.there
        (begins 𝓦 (automaton_of p) (view_of p b) same_clocks high u.begin u.first (true_T _ u.starts)) 𝓦.unit_worth u.leads (omega arith) (omega arith) in
        let q = stays_on u.stay (u.begin + length_of u.steps) (0 + length_of u.steps) u.there.0 u.there.1 (combine_all 𝓦 (stay_worths p b u.begin u.steps)) r
        (all-worth p.weighing (stay_worths p b u.begin u.steps)) (omega arith) (omega arith) in
        let e : u.begin + length_of u.steps + u.stay ≡ now = omega arith in
        let f : 0 + length_of u.steps ≡ length_of u.steps = omega arith in
        let v : 𝓦.combine (combine_all 𝓦 (stay_worths p b u.begin u.steps)) (stay_worth p b u.there.0 (u.begin + length_of u.steps) u.stay) ≡ w =
        sym (combine_all_snoc 𝓦 (stay_worths p b u.begin u.steps) (stay_worth p b u.there.0 (u.begin + length_of u.steps) u.stay)) ∙ u.is_worth in
        subst (λ (x : State Clocks). R now x w) u.state (rw (e, f, v) at q)

pub unfinished_are_reached : UnfinishedAreReached
unfinished_are_reached p sound b high now s w l h = (
  is-reached p b sound high now s w l h,
  λ r. is_unfinished p b sound high r l,
)

pub runs_were_unfinished : RunsWereUnfinished
runs_were_unfinished p sound b end len w l o =
    let walks = runs_are_walks (weighting_of p.weighing) (automaton_of p) same_clocks (view_of p b) len (gains_are_worths p b) end len w o (omega arith) in (
      (λ r.
          let a = walks.0 (r.0, (priced_are_runs p sound b r.0 end len w l).0 r.1) in
          (a.there, a.len_is, a.just_entered, T_true _ a.at_end, is_unfinished p b sound len a.reached l)),
      (λ u.
          let short : u.0.len ≤ len = rw u.1 (omega arith) in
          let r = walks.1 (record { there = u.0; len_is = u.1; just_entered = u.2; at_end = true_T _ u.3; reached = is-reached p b sound len end u.0 w l short u.4 }) in
          (r.0, (priced_are_runs p sound b r.0 end len w l).1 r.1)),
    )
