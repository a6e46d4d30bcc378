-- The claims of specs/Claims.
use Prim.Native.Nat.{ℕ, ◌+◌}
use mathlib.Core.Path.{◌≡◌, refl, sym, ap, ◌∙◌}
use mathlib.Core.List.Memᴰ
use mathlib.Core.List.{List, [], ◌∷◌, ◌++◌, map, flat_map, append_assoc, Memᴰ}
use mathlib.Core.Logic.{⊎_elim}
use native.Mathlib.Omega.{arith}
use mathlib.Core.Option.{some}
use mathlib.Core.Bool.{Bool, true, false}
use borrow.Author.Tests.{le-leb, leb-true}
use lib.Dec.{T, leb}
use lib.ListN.{length, take, drop, replicate, replicate-append-replicate}
use lib.IntN.{ℤ}
use Rattle.integers.specs.Least.{min_z}
use Rattle.integers.proofs.Tests.{is_false}
use Rattle.weighting.specs.declared.Weighing.{Weighing}
use Rattle.weighting.specs.declared.Weighing.TheVariants.{Margin}
use Rattle.weighting.specs.Weighting.{combine_from, combine_all}
use Rattle.weighting.proofs.Weightings.{margin, weighting_of}
use Rattle.weighting.proofs.Worths.{combine_from-append, combine_from_snoc, combine_from-all}
use Rattle.pattern.specs.declared.Pattern.{Pattern}
use Rattle.pattern.specs.Slots.{all}
use Rattle.pattern.specs.Kinds.{is_start, is_end}
use Rattle.pattern.specs.Clocks.{Clocks, clock_at, zero_clocks, later, guard_holds, guards_hold}
use Rattle.pattern.specs.InUse.{guards_of, place_at, edge_at}
use Rattle.pattern.specs.Distance.{Sample, distances_of, place_worth}
use Rattle.pattern.proofs.SoundLaws.{both}
use Rattle.record.specs.Record.{Piece, Book, ticks_of}
use Rattle.record.specs.Joined.{agrees, observed}
use Rattle.record.specs.Run.{Step, can_step, clocks_after, goes, is_run, end_of, length_of}
use Rattle.record.specs.Worth.{stay_worth, stay_worths, run_worth, price_of}
use Rattle.record.specs.Claims.{CutsDoNotMatter, ObservedInOrder, MarginCountsTicks, AgreeingWorths, distances_in, MarginIsLeastDistance, SameRuns, OnlyPlacesLeftSpeak, EndPlaceIsSilent, ZeroGuardNeverHolds, LengthIsStays, NeverARun}
use Rattle.record.proofs.StepLaws.{later-is, can-parts}
use Rattle.record.proofs.JoinedLaws.{joined_fresh, margin-joined, agree-worth}
use Rattle.record.proofs.PlaceLaws.{stays-worth-all}
use Rattle.record.proofs.PriceLaws.{priced_parts}

-- ---- cuts

pub cut_ticks : (before after : List Piece) (m n : ℕ) (s : Sample)
    → ticks_of (before ++ record { duration = m + n; sample = s } ∷ after)
    ≡ ticks_of (before ++ record { duration = m; sample = s } ∷ record { duration = n; sample = s } ∷ after)
unfolding ticks_of
cut_ticks [] after m n s =
    rw (← replicate-append-replicate m n s) (append_assoc (replicate m s) (replicate n s) (ticks_of after))
cut_ticks (x ∷ before) after m n s = ap (◌++◌ (replicate x.duration x.sample)) (cut_ticks before after m n s)

pub cuts_do_not_matter : CutsDoNotMatter
cuts_do_not_matter p before after m n s begin xs = ap (λ (b : Book). price_of p b begin xs) (cut_ticks before after m n s)

-- ---- joining

pub observed-in-order : ObservedInOrder
observed-in-order A same x b = joined_fresh same x b

pub agreeing_worths : AgreeingWorths
agreeing_worths w l x y e = agree-worth w l x y e

pub margin-counts-ticks : MarginCountsTicks
margin-counts-ticks A same f alike b = margin-joined same f alike margin.unit b

-- ---- margin

-- lists of worths combined one by one, or laid end to end
flat-from : {A : Type 0} (f : A → List ℤ) (a : ℤ) (l : List A) → T (margin.worth a)
    → combine_from margin a (map (λ x. combine_all margin (f x)) l) ≡ combine_from margin a (flat_map f l)
unfolding combine_from flat_map
flat-from f a [] h = refl
flat-from f a (x ∷ l) h =
    ap (λ (z : ℤ). combine_from margin z (map (λ y. combine_all margin (f y)) l)) (sym (combine_from-all margin a h (f x)))
    ∙ flat-from f (combine_from margin a (f x)) l (stays-worth-all Margin a (f x) h)
    ∙ sym (combine_from-append margin a (f x) (flat_map f l))

module _ (p : Pattern) (is : p.weighing ≡ Margin) where
  -- a stay: the least of its distances, at every tick
  stay-least : (b : Book) (k t n : ℕ) → stay_worth p b k t n ≡ combine_all margin (flat_map (distances_of (place_at p k)) (take n (drop t b)))
  unfolding stay_worth observed place_worth
  stay-least b k t n =
      rw is (margin-counts-ticks Sample (agrees (place_at p k)) (place_worth Margin (place_at p k)) (agree-worth Margin (place_at p k)) (take n (drop t b)) ∙ flat-from (distances_of (place_at p k)) margin.unit (take n (drop t b)) margin.unit_worth)

  stays-least : (b : Book) (t : ℕ) (xs : List Step) (a : ℤ) → T (margin.worth a)
      → combine_from margin a (stay_worths p b t xs) ≡ combine_from margin a (distances_in p b t xs)
  unfolding stay_worths distances_in combine_from
  stays-least b t [] a h = refl
  stays-least b t (x ∷ xs) a h =
      let ds = flat_map (distances_of (place_at p (edge_at p x.edge).from)) (take x.stay (drop t b)) in
      ap (λ (z : ℤ). combine_from margin z (stay_worths p b (t + x.stay) xs)) (ap (min_z a) (stay-least b (edge_at p x.edge).from t x.stay) ∙ sym (combine_from-all margin a h ds))
      ∙ stays-least b (t + x.stay) xs (combine_from margin a ds) (stays-worth-all Margin a ds h)
      ∙ sym (combine_from-append margin a ds (distances_in p b (t + x.stay) xs))

pub margin-is-least_distance : MarginIsLeastDistance
unfolding run_worth
margin-is-least_distance p b begin xs w is e =
    sym (priced_parts p b begin xs w e).2
    ∙ ap (λ (v : Weighing). combine_all (weighting_of v) (stay_worths p b begin xs)) is
    ∙ stays-least p is b begin xs margin.unit margin.unit_worth

-- ---- places that no step leaves

module _ (p q : Pattern) (h : SameRuns p q) where
  can-same : (k : ℕ) (cs : Clocks) (x : Step) → can_step q k cs x ≡ can_step p k cs x
  unfolding can_step
  can-same k cs x = rw (h.edgecount, h.edges)

  goes_same : (k : ℕ) (cs : Clocks) (xs : List Step) → goes q k cs xs ≡ goes p k cs xs
  unfolding goes
  goes_same k cs [] = ap is_end (h.kinds k)
  goes_same k cs (x ∷ xs) =
      rw (goes_same (edge_at q x.edge).to (clocks_after q cs x) xs, can-same k cs x, h.edges)

  run-same : (xs : List Step) → is_run q xs ≡ is_run p xs
  unfolding is_run
  run-same [] = refl
  run-same (x ∷ xs) =
      rw (goes_same (edge_at q x.edge).from zero_clocks (x ∷ xs), h.kinds (edge_at q x.edge).from, h.edges)

  worths_same : (b : Book) (t : ℕ) (xs : List Step)
      → ((x : Step) → Memᴰ x xs → place_at q (edge_at p x.edge).from ≡ place_at p (edge_at p x.edge).from)
      → stay_worths q b t xs ≡ stay_worths p b t xs
  unfolding stay_worths stay_worth
  worths_same b t [] e = refl
  worths_same b t (x ∷ xs) e =
      rw (worths_same b (t + x.stay) xs (λ y m. e y (Memᴰ.tail m)), h.weighing, h.edges, e x (Memᴰ.head refl))

pub only-places-left_speak : OnlyPlacesLeftSpeak
unfolding price_of run_worth
only-places-left_speak p q b begin xs h e = rw (run-same p q h xs, worths_same p q h b begin xs e, h.weighing)

-- ---- the last step

worths_last : (p : Pattern) (b : Book) (t : ℕ) (xs : List Step) (x : Step)
    → stay_worths p b t (xs ++ x ∷ []) ≡ stay_worths p b t xs ++ stay_worth p b (edge_at p x.edge).from (end_of t xs) x.stay ∷ []
unfolding stay_worths end_of
worths_last p b t [] x = refl
worths_last p b t (y ∷ xs) x = ap (◌∷◌ (stay_worth p b (edge_at p y.edge).from t y.stay)) (worths_last p b (t + y.stay) xs x)

-- ---- a guard that no clock passes after a stay

all_member : {A : Type 0} (f : A → Bool) (xs : List A) (a : A) → Memᴰ a xs → all f xs ≡ true → f a ≡ true
all_member f [] a m e = absurd (Memᴰ.not-nil m)
all_member f (x ∷ xs) a m e =
    let h = both (f x) (all f xs) e in
    ⊎_elim (λ q. ap f q ∙ h.0) (λ q. all_member f xs a q h.1) (Memᴰ.cases_cons m)

pub zero-guard-never-holds : ZeroGuardNeverHolds
unfolding guards_hold
zero-guard-never-holds p k cs x g m sign bound clock =
    is_false (can_step p k cs x) (λ e.
    let can = can-parts p k cs x e in
    let waits = can.waits in
    let holds = all_member (guard_holds (later x.stay cs)) (guards_of (edge_at p x.edge)) g m can.holds in
    let low : leb (clock_at (later x.stay cs) g.clock) 0 ≡ true = rw (sign, bound) at holds in
    omega (arith, later-is x.stay g.clock cs clock, leb-true (clock_at (later x.stay cs) g.clock) 0 low))

-- ---- a run's length

pub length-is-stays : LengthIsStays
unfolding end_of length_of
length-is-stays begin [] = let z : begin ≡ begin + 0 = omega arith in z
length-is-stays begin (x ∷ xs) =
    let z : (begin + x.stay) + length_of xs ≡ begin + (x.stay + length_of xs) = omega arith in
    length-is-stays (begin + x.stay) xs ∙ z

-- ---- the end place

pub end-place-is_silent : EndPlaceIsSilent
unfolding price_of run_worth
end-place-is_silent p b begin xs x run inside =
    let ys = xs ++ x ∷ [] in
    let fits : leb (begin + length_of ys) (length b) ≡ true = le-leb (begin + length_of ys) (length b) (omega (arith, length-is-stays begin ys)) in
    rw (run, fits, worths_last p b begin xs x)
    (ap some (combine_from_snoc (weighting_of p.weighing) (weighting_of p.weighing).unit (stay_worths p b begin xs) (stay_worth p b (edge_at p x.edge).from (end_of begin xs) x.stay)))

-- ---- patterns that never have a run

true-not-false : ◌≡◌ {A = Bool} true false → ⊥
true-not-false e = let z : ◌≡◌ {A = ℕ} 0 1 = cc in omega arith

goes_nowhere : (p : Pattern) → ((k : ℕ) → is_end (place_at p k).kind ≡ false) → (k : ℕ) (cs : Clocks) (xs : List Step) → goes p k cs xs ≡ true → ⊥
unfolding goes
goes_nowhere p h k cs [] e = true-not-false (sym e ∙ h k)
goes_nowhere p h k cs (x ∷ xs) e = goes_nowhere p h (edge_at p x.edge).to (clocks_after p cs x) xs (both (can_step p k cs x) _ e).1

pub never-a-run : NeverARun
unfolding is_run goes
never-a-run p [] h = refl
never-a-run p (x ∷ xs) h = is_false _ (λ e.
    let r = both (is_start (place_at p (edge_at p x.edge).from).kind) (goes p (edge_at p x.edge).from zero_clocks (x ∷ xs)) e in
    ⊎_elim (λ s. true-not-false (sym r.0 ∙ s (edge_at p x.edge).from))
    (⊎_elim (λ n. goes_nowhere p n (edge_at p x.edge).from zero_clocks (x ∷ xs) r.1)
    (λ n. let can = can-parts p (edge_at p x.edge).from zero_clocks x (both (can_step p (edge_at p x.edge).from zero_clocks x) _ r.1).0 in
    let known = can.known in
    omega arith)) h)
