-- On a book, steps that document 01 prices are the runs of the pattern's automaton.
use Prim.Native.Nat.{ℕ, zero, suc, ◌+◌, ◌≤◌, ◌<◌}
use native.Mathlib.Omega.{arith}
use mathlib.Core.Path.{◌≡◌, refl, sym, ap, subst, ◌∙◌}
use mathlib.Core.List.{List, [], ◌∷◌, map, Memᴰ}
use mathlib.Core.Option.{some}
use mathlib.Core.Bool.{Bool, true, false}
use borrow.Author.Tests.{eqb-true, leb-true, ltb-true, eq-eqb, le-leb, lt-ltb}
use lib.Dec.{T}
use lib.ListN.{length, get_or, length-take}
use lib.Seq.{get_or-take}
use lib.IntN.{ℤ}
use Rattle.integers.proofs.Tests.{T_true, true_T, both_true}
use Rattle.weighting.proofs.Weightings.{weighting_of}
use Rattle.pattern.specs.declared.Edge.{Edge}
use Rattle.pattern.specs.declared.Pattern.{Pattern}
use Rattle.pattern.specs.Sound.{no_edge, sound_of}
use Rattle.pattern.specs.InUse.{place_at, edge_at, edges_of}
use Rattle.pattern.specs.Kinds as kinds
use Rattle.pattern.specs.Clocks.{Clocks, zero_clocks, later, guards_hold, after_resets}
use Rattle.pattern.proofs.SoundLaws.{both, parts}
use Rattle.record.specs.Record.{Book}
use Rattle.record.specs.Run.{Step, can_step, goes, is_run, length_of}
use Rattle.record.specs.Worth.{stay_worths, run_worth, price_of}
use Rattle.record.proofs.PriceLaws.{priced_parts}
use Rattle.walks.specs.Runs as walk
use Rattle.walks.specs.Runs.{Leg, Goes, later as after, total, Run}
use Rattle.book.specs.Automaton.{automaton_of}
use Rattle.book.specs.View.{view_of}
use Rattle.book.specs.PricedRun.{PricedRun}
use Rattle.book.specs.Claims.{PricedAreRuns}
use Rattle.book.proofs.Members.{at_member, member_at}
use Rattle.book.proofs.StayGains.{stay-together}

-- ---- clocks: n ticks one by one are n ticks at once

pub add-zeros : (cs : Clocks) → map (λ c. c + 0) cs ≡ cs
add-zeros [] = refl
add-zeros (c ∷ cs) = let e : c + 0 ≡ c = omega arith in rw (e, add-zeros cs)

add-more : (n : ℕ) (cs : Clocks) → map (λ c. c + n) (map (λ c. c + 1) cs) ≡ map (λ c. c + suc n) cs
add-more n [] = refl
add-more n (c ∷ cs) = let e : c + 1 + n ≡ c + suc n = omega arith in rw (e, add-more n cs)

pub after-later : (p : Pattern) (n : ℕ) (cs : Clocks) → after (automaton_of p) n cs ≡ later n cs
after-later p zero cs = sym (add-zeros cs)
after-later p (suc n) cs = after-later p n (later 1 cs) ∙ add-more n cs

module _ (p : Pattern) (sound : sound_of p ≡ true) where
  -- a step by its edge's number, as a step by its edge
  abbrev pub plain : Step → walk.Step Edge
  plain x = record { edge = edge_at p x.edge; stay = x.stay }

  edges-length : length (edges_of p) ≡ p.edgecount
  edges-length =
      let e = (parts p sound).edges in
      let l = e.long in
      let f = e.few in
      let t = length-take p.edgecount p.edges in
      omega arith

  in_use : (i : ℕ) → i < p.edgecount → get_or (edges_of p) i no_edge ≡ edge_at p i
  in_use i h = get_or-take p.edgecount p.edges i no_edge h

  -- ---- from numbers to edges

  pub leg : (k : ℕ) (cs : Clocks) (x : Step) → can_step p k cs x ≡ true → Leg (automaton_of p) k cs (plain x)
  unfolding can_step
  leg k cs x h =
      let a = both _ _ h in
      let b = both _ _ a.0 in
      let c = both _ _ b.0 in
      let known = ltb-true _ _ c.0 in
      let l = edges-length in
      record {
        known = subst (λ (e : Edge). Memᴰ e (edges_of p)) (in_use x.edge known) (at_member (edges_of p) x.edge no_edge (omega arith));
        fits = eqb-true _ _ c.1;
        stays = leb-true _ _ b.1;
        guarded = rw (after-later p x.stay cs) (true_T _ a.1);
      }

  pub to-goes : (k : ℕ) (cs : Clocks) (xs : List Step) → goes p k cs xs ≡ true → Goes (automaton_of p) k cs (map plain xs)
  unfolding goes
  to-goes k cs [] h = true_T _ h
  to-goes k cs (x ∷ xs) h =
      let a = both (can_step p k cs x) _ h in
      (leg k cs x a.0, rw (after-later p x.stay cs) (to-goes (edge_at p x.edge).to (after_resets (edge_at p x.edge) (later x.stay cs)) xs a.1))

  plain-total : (xs : List Step) → total (map plain xs) ≡ length_of xs
  unfolding length_of
  plain-total [] = refl
  plain-total (x ∷ xs) = ap (λ (n : ℕ). x.stay + n) (plain-total xs)

  -- what the stays are worth
  plain_worths : (b : Book) (t : ℕ) (xs : List Step) → t + length_of xs ≤ length b
      → walk.stay_worths (weighting_of p.weighing) (automaton_of p) (view_of p b) t (map plain xs) ≡ some (stay_worths p b t xs)
  unfolding walk.stay_worths stay_worths length_of
  plain_worths b t [] h = refl
  plain_worths b t (x ∷ xs) h =
      rw (stay-together p b (edge_at p x.edge).from t x.stay (omega arith), plain_worths b (t + x.stay) xs (omega arith))

  plain-worth : (b : Book) (t : ℕ) (xs : List Step) → t + length_of xs ≤ length b
      → walk.run_worth (weighting_of p.weighing) (automaton_of p) (view_of p b) t (map plain xs) ≡ some (run_worth p b t xs)
  unfolding walk.run_worth run_worth
  plain-worth b t xs h = rw (plain_worths b t xs h)

  -- ---- from edges to numbers

  can : (k : ℕ) (cs : Clocks) (i n : ℕ) → i < p.edgecount → (edge_at p i).from ≡ k → 1 ≤ n → T (guards_hold (later n cs) (edge_at p i))
      → can_step p k cs (record { edge = i; stay = n }) ≡ true
  unfolding can_step
  can k cs i n known fits stays guarded =
      both_true _ _ (both_true _ _ (both_true _ _ (lt-ltb _ _ known) (eq-eqb _ _ fits)) (le-leb _ _ stays)) (T_true _ guarded)

  pub step_of : (k : ℕ) (cs : Clocks) (y : walk.Step Edge) → Leg (automaton_of p) k cs y → (x : Step) × (plain x ≡ y) × (can_step p k cs x ≡ true)
  step_of k cs y l =
      let r = member_at (edges_of p) y.edge no_edge l.known in
      let i : r.0 < p.edgecount = let q : r.0 < length (edges_of p) = r.1 in let e = edges-length in omega arith in
      let e : edge_at p r.0 ≡ y.edge = sym (in_use r.0 i) ∙ r.2 in
      let held : T (guards_hold (later y.stay cs) y.edge) = rw (after-later p y.stay cs) at l.guarded in (
        record { edge = r.0; stay = y.stay },
        (λ z. record { edge = e z; stay = y.stay }),
        can k cs r.0 y.stay i (ap (λ (x : Edge). x.from) e ∙ l.fits) l.stays
            (subst (λ (x : Edge). T (guards_hold (later y.stay cs) x)) (sym e) held),
      )

  -- the steps after the first, from where its edge leads
  onward : (cs : Clocks) (x : Step) (y : walk.Step Edge) (xs : List Step) → plain x ≡ y
      → goes p y.edge.to (after_resets y.edge (after (automaton_of p) y.stay cs)) xs ≡ true
      → goes p (edge_at p x.edge).to (after_resets (edge_at p x.edge) (later x.stay cs)) xs ≡ true
  onward cs x y xs e h =
      rw (after-later p x.stay cs) at
      (subst (λ (s : walk.Step Edge). goes p s.edge.to (after_resets s.edge (after (automaton_of p) s.stay cs)) xs ≡ true) (sym e) h)

  pub from_goes : (k : ℕ) (cs : Clocks) (ys : List (walk.Step Edge)) → Goes (automaton_of p) k cs ys → (xs : List Step) × (map plain xs ≡ ys) × (goes p k cs xs ≡ true)
  unfolding goes
  from_goes k cs [] g = ([], refl, T_true _ g)
  from_goes k cs (y ∷ ys) g =
      let n = step_of k cs y g.0 in
      let r = from_goes y.edge.to (after_resets y.edge (after (automaton_of p) y.stay cs)) ys g.1 in
      (n.0 ∷ r.0, (λ z. n.1 z ∷ r.1 z), both_true _ _ n.2 (onward cs n.0 y r.0 n.1 r.2))

  -- ---- runs

  run_of : (b : Book) (begin end len : ℕ) (w : ℤ) (xs : List Step) → is_run p xs ≡ true → begin + length_of xs ≤ length b → run_worth p b begin xs ≡ w
      → length_of xs ≡ len → begin + len ≡ end → Run (weighting_of p.weighing) (automaton_of p) (view_of p b) begin end len w
  unfolding is_run
  run_of b begin end len w [] r h v l e = absurd (no r)
    where
      no : ◌≡◌ {A = Bool} false true → ⊥
      no e = let z : ◌≡◌ {A = ℕ} 0 1 = cc in omega arith
  run_of b begin end len w (x ∷ xs) r h v l e =
      let a = both (kinds.is_start (place_at p (edge_at p x.edge).from).kind) _ r in
      record {
        steps = map plain (x ∷ xs);
        first = (edge_at p x.edge).from;
        first_starts = true_T _ a.0;
        goes = to-goes _ zero_clocks (x ∷ xs) a.1;
        has_steps = tt;
        lasts = plain-total (x ∷ xs) ∙ l;
        ends = e;
        is_worth = plain-worth b begin (x ∷ xs) h ∙ ap some v;
      }

  price_of_lem : (b : Book) (begin : ℕ) (xs : List Step) → is_run p xs ≡ true → begin + length_of xs ≤ length b → price_of p b begin xs ≡ some (run_worth p b begin xs)
  unfolding price_of
  price_of_lem b begin xs r h = rw (both_true _ _ r (le-leb _ _ h))

  is-run : (k : ℕ) (xs : List Step) → T (walk.non_empty (map plain xs)) → kinds.is_start (place_at p k).kind ≡ true → goes p k zero_clocks xs ≡ true → is_run p xs ≡ true
  unfolding is_run goes can_step
  is-run k [] n s g = absurd n
  is-run k (x ∷ xs) n s g =
      let a = both (can_step p k zero_clocks x) _ g in
      let f : (edge_at p x.edge).from ≡ k = (leg k zero_clocks x a.0).fits in
      let starts : kinds.is_start (place_at p (edge_at p x.edge).from).kind ≡ true = rw f s in
      let going : goes p (edge_at p x.edge).from zero_clocks (x ∷ xs) ≡ true = subst (λ (n : ℕ). goes p n zero_clocks (x ∷ xs) ≡ true) (sym f) g in
      both_true _ _ starts going

  priced_of_lem : (b : Book) (begin end len : ℕ) (w : ℤ) → end ≤ length b
      → Run (weighting_of p.weighing) (automaton_of p) (view_of p b) begin end len w → PricedRun p b begin end len w
  priced_of_lem b begin end len w h u =
      let r = from_goes u.first zero_clocks u.steps u.goes in
      let xs = r.0 in
      let same : map plain xs ≡ u.steps = r.1 in
      let l : length_of xs ≡ len = sym (plain-total xs) ∙ ap total same ∙ u.lasts in
      let e = u.ends in
      let run = is-run u.first xs (subst (λ (ys : List (walk.Step Edge)). T (walk.non_empty ys)) (sym same) u.has_steps) (T_true _ u.first_starts) r.2 in
      let low : begin + length_of xs ≤ length b = omega arith in
      let v : walk.run_worth (weighting_of p.weighing) (automaton_of p) (view_of p b) begin (map plain xs) ≡ some w =
      subst (λ (ys : List (walk.Step Edge)). walk.run_worth (weighting_of p.weighing) (automaton_of p) (view_of p b) begin ys ≡ some w) (sym same) u.is_worth in
      record { steps = xs; price = price_of_lem b begin xs run low ∙ sym (plain-worth b begin xs low) ∙ v; lasts = l; ends = e }

pub priced_are_runs : PricedAreRuns
priced_are_runs p sound b begin end len w h = (
  (λ q. let k = priced_parts p b begin q.steps w q.price in
      run_of p sound b begin end len w q.steps k.0 k.1 k.2 q.lasts q.ends),
  priced_of_lem p sound b begin end len w h,
)
