-- How large scores come: each tick brings at most one observation, of at most 8,000,000 in sum, and in margin none grows.
use Prim.Native.Nat.{ℕ, zero, suc, ◌+◌, ◌^◌, ◌≤◌, ◌<◌}
use native.Mathlib.Omega.{arith}
use mathlib.Core.Path.{◌≡◌, refl, ap, subst, ◌∙◌}
use mathlib.Core.List.{List, [], ◌∷◌, map}
use mathlib.Core.Option.{Option, none, some}
use mathlib.Core.Bool.{Bool, true, false, cond}
use lib.ListN.{length, take, drop, replicate, length-take}
use lib.IntN.{ℤ, nat_abs}
use Rattle.integers.proofs.Ranges.{abs_add, abs_min}
use Rattle.weighting.specs.declared.Weighing.{Weighing}
use Rattle.weighting.specs.declared.Weighing.TheVariants.{Margin, Sum}
use Rattle.weighting.specs.Weighting.{combine_from}
use Rattle.weighting.proofs.Weightings.{weighting_of}
use Rattle.pattern.specs.declared.Pattern.{Pattern}
use Rattle.pattern.specs.declared.Refusal.{Refusal}
use Rattle.pattern.specs.declared.Refusal.TheVariants.{UnsoundPattern, BrokenRecord, BrokenSteps, NotARun}
use Rattle.pattern.specs.Slots.{all}
use Rattle.pattern.specs.Sound.{sound_of}
use Rattle.pattern.specs.Kinds.{is_start}
use Rattle.pattern.specs.InUse.{place_at, edge_at}
use Rattle.pattern.specs.Clocks.{Clocks, zero_clocks}
use Rattle.pattern.specs.Distance.{Sample, place_worth}
use Rattle.pattern.proofs.SoundLaws.{both}
use Rattle.pattern.proofs.SlotLaws.{all_append}
use Rattle.record.specs.Record.{Book, ticks_of, pieces_of, book_of, value_in_range, record_sound}
use Rattle.record.specs.Joined.{agrees, absorb, joined, observed}
use Rattle.record.specs.Run.{Step, can_step, clocks_after, goes, is_run, length_of, steps_of}
use Rattle.record.specs.Worth.{stay_worth, stay_worths, run_worth, price_of}
use Rattle.record.proofs.ListLaws.{all_take, all_drop}
use Rattle.record.proofs.RecordLaws.{parts, length-ticks}
use Rattle.record.proofs.PlaceLaws.{place-at-sound, margin-place-size, place-size}
use Rattle.record.proofs.StepLaws.{can-parts}
use Rattle.record.proofs.PriceLaws.{priced_parts}
use Rattle.std.specs.Prelude.{Result, Ok, Err}
use Rattle.price.specs.Price.{steps_fit, scored, priced_of, largest_score, ScoresInRange}
use Rattle.price_runs.proofs.RunLaws.{edge-at-sound}

abbrev Sized : Weighing → ℕ → ℤ → Type 0
Sized w n z = nat_abs z ≤ largest_score w n

-- ---- combinations

unit_sized : (w : Weighing) → Sized w 0 (weighting_of w).unit
unit_sized Margin = omega arith
unit_sized Sum = omega arith

combine_sized : (w : Weighing) (m n : ℕ) (a b : ℤ) → Sized w m a → Sized w n b → Sized w (m + n) ((weighting_of w).combine a b)
combine_sized Margin m n a b h k = omega (arith, abs_min a b)
combine_sized Sum m n a b h k = omega (arith, abs_add a b)

longer : (w : Weighing) (m n : ℕ) (z : ℤ) → m ≤ n → Sized w m z → Sized w n z
longer Margin m n z l h = h
longer Sum m n z l h = omega arith

-- ---- samples in range

same-range : (d : ℕ) (x : Sample) → all value_in_range x ≡ true → all (all value_in_range) (replicate d x) ≡ true
same-range zero x h = refl
same-range (suc d) x h = rw (h, same-range d x h)

ticks-range : (n : ℕ) (ds : List ℕ) (vs : List ℤ) → all value_in_range vs ≡ true → all (all value_in_range) (ticks_of (pieces_of n ds vs)) ≡ true
unfolding ticks_of pieces_of
ticks-range n [] vs h = refl
ticks-range n (d ∷ ds) vs h =
    all_append (all value_in_range) (replicate d (take n vs)) (ticks_of (pieces_of n ds (drop n vs)))
    ∙ rw (same-range d (take n vs) (all_take value_in_range n vs h), ticks-range n ds (drop n vs) (all_drop value_in_range n vs h))

joined-range : (same : Sample → Sample → Bool) (b : Book) → all (all value_in_range) b ≡ true → all (all value_in_range) (joined same b) ≡ true
unfolding joined absorb
joined-range same [] h = refl
joined-range same (x ∷ b) h = let k = both (all value_in_range x) (all (all value_in_range) b) h in absorbed (joined same b) k.0 (joined-range same b k.1)
  where
    absorbed : (ys : List Sample) → all value_in_range x ≡ true → all (all value_in_range) ys ≡ true → all (all value_in_range) (absorb same x ys) ≡ true
    absorbed [] e f = rw e
    absorbed (y ∷ ys) e f = by (same x y)
      where
        by : (t : Bool) → all (all value_in_range) (cond t (x ∷ ys) (x ∷ y ∷ ys)) ≡ true
        by true = rw e (both (all value_in_range y) (all (all value_in_range) ys) f).1
        by false = rw e f

joined-short : (same : Sample → Sample → Bool) (b : Book) → length (joined same b) ≤ length b
unfolding joined absorb
joined-short same [] = omega arith
joined-short same (x ∷ b) = let k = joined-short same b in let l = absorbed (joined same b) in omega arith
  where
    absorbed : (ys : List Sample) → length (absorb same x ys) ≤ suc (length ys)
    absorbed [] = omega arith
    absorbed (y ∷ ys) = by (same x y)
      where
        by : (t : Bool) → length (cond t (x ∷ ys) (x ∷ y ∷ ys)) ≤ suc (suc (length ys))
        by true = omega arith
        by false = omega arith

-- ---- a stay, and a run

module _ (p : Pattern) (sound : sound_of p ≡ true) where
  place_sized : (w : Weighing) (k : ℕ) (x : Sample) → k < p.placecount → all value_in_range x ≡ true → Sized w 1 (place_worth w (place_at p k) x)
  place_sized Margin k x h e = margin-place-size p.channels (place_at p k) x (place-at-sound p k sound h) e
  place_sized Sum k x h e = place-size p.channels (place_at p k) x (place-at-sound p k sound h) e Sum

  seen_sized : (w : Weighing) (k n : ℕ) (a : ℤ) (ys : List Sample) → k < p.placecount → all (all value_in_range) ys ≡ true → Sized w n a
      → Sized w (n + length ys) (combine_from (weighting_of w) a (map (place_worth w (place_at p k)) ys))
  unfolding combine_from
  seen_sized w k n a [] h e s = longer w n (n + 0) a (omega arith) s
  seen_sized w k n a (y ∷ ys) h e s =
      let r = both (all value_in_range y) (all (all value_in_range) ys) e in
      let v = (weighting_of w).combine a (place_worth w (place_at p k) y) in
      longer w (n + 1 + length ys) (n + suc (length ys)) (combine_from (weighting_of w) v (map (place_worth w (place_at p k)) ys)) (omega arith)
      (seen_sized w k (n + 1) v ys h r.1 (combine_sized w n 1 a (place_worth w (place_at p k) y) s (place_sized w k y h r.0)))

  module _ (b : Book) (fine : all (all value_in_range) b ≡ true) where
    stay_sized : (k t n : ℕ) → k < p.placecount → Sized p.weighing n (stay_worth p b k t n)
    unfolding stay_worth observed
    stay_sized k t n h =
        let seen = take n (drop t b) in
        let same = agrees (place_at p k) in
        longer p.weighing (0 + length (joined same seen)) n (stay_worth p b k t n) (omega (arith, joined-short same seen, length-take n (drop t b)))
        (seen_sized p.weighing k 0 (weighting_of p.weighing).unit (joined same seen) h (joined-range same seen (all_take (all value_in_range) n (drop t b) (all_drop (all value_in_range) t b fine))) (unit_sized p.weighing))

    stays_sized : (k : ℕ) (cs : Clocks) (t n : ℕ) (a : ℤ) (xs : List Step) → goes p k cs xs ≡ true → Sized p.weighing n a
        → Sized p.weighing (n + length_of xs) (combine_from (weighting_of p.weighing) a (stay_worths p b t xs))
    unfolding combine_from stay_worths length_of goes
    stays_sized k cs t n a [] g s = longer p.weighing n (n + 0) a (omega arith) s
    stays_sized k cs t n a (x ∷ xs) g s =
        let r = both (can_step p k cs x) (goes p (edge_at p x.edge).to (clocks_after p cs x) xs) g in
        let has = (edge-at-sound p x.edge sound (can-parts p k cs x r.0).known).1.0 in
        let v = (weighting_of p.weighing).combine a (stay_worth p b (edge_at p x.edge).from t x.stay) in
        longer p.weighing (n + x.stay + length_of xs) (n + (x.stay + length_of xs)) (combine_from (weighting_of p.weighing) v (stay_worths p b (t + x.stay) xs)) (omega arith)
        (stays_sized (edge_at p x.edge).to (clocks_after p cs x) (t + x.stay) (n + x.stay) v xs r.1
        (combine_sized p.weighing n x.stay a (stay_worth p b (edge_at p x.edge).from t x.stay) s (stay_sized (edge_at p x.edge).from t x.stay has)))

    run_sized : (begin : ℕ) (xs : List Step) → is_run p xs ≡ true → Sized p.weighing (length_of xs) (run_worth p b begin xs)
    unfolding is_run run_worth
    run_sized begin [] r = absurd (no r)
      where
        no : ◌≡◌ {A = Bool} false true → ⊥
        no e = let z : ◌≡◌ {A = ℕ} 0 1 = cc in omega arith
    run_sized begin (x ∷ xs) r =
        let a = both (is_start (place_at p (edge_at p x.edge).from).kind) _ r in
        longer p.weighing (0 + length_of (x ∷ xs)) (length_of (x ∷ xs)) (run_worth p b begin (x ∷ xs)) (omega arith)
        (stays_sized (edge_at p x.edge).from zero_clocks begin 0 (weighting_of p.weighing).unit (x ∷ xs) a.1 (unit_sized p.weighing))

-- a run of a record's ticks is far below 2^63
far : (w : Weighing) (n : ℕ) (z : ℤ) → n ≤ 2147483647 → Sized w n z → nat_abs z < 2 ^ 54
far Margin n z l h = omega arith
far Sum n z l h = omega arith

-- ---- what is answered

pub scores-in-range : ScoresInRange
unfolding priced_of book_of
scores-in-range p ds vs begin es ss w e =
    by (sound_of p) (record_sound p.channels ds vs) (steps_fit ds begin es ss) (price_of p b begin xs) refl refl refl e
  where
    b : Book
    b = book_of p.channels ds vs

    xs : List Step
    xs = steps_of es ss

    sized : sound_of p ≡ true → record_sound p.channels ds vs ≡ true → price_of p b begin xs ≡ some w
        → (nat_abs w ≤ largest_score p.weighing (length_of xs)) × (nat_abs w < 2 ^ 54)
    sized sound kept e =
        let k = priced_parts p b begin xs w e in
        let r = parts p.channels ds vs kept in
        let low = k.1 in
        let short = r.short in
        let long = length-ticks p.channels ds vs in
        let s = subst (Sized p.weighing (length_of xs)) k.2 (run_sized p sound b (ticks-range p.channels ds vs r.values) begin xs k.0) in
        (s, far p.weighing (length_of xs) w (omega arith) s)

    refused : {A : Type 0} (r : Refusal) → ◌≡◌ {A = Result ℤ Refusal} (Err r) (Ok w) → A
    refused r e = cc

    the_score : (v : ℤ) → ◌≡◌ {A = Result ℤ Refusal} (Ok v) (Ok w) → v ≡ w
    the_score v e = cc

    by : (x y z : Bool) (o : Option ℤ) → sound_of p ≡ x → record_sound p.channels ds vs ≡ y → price_of p b begin xs ≡ o
        → cond x (cond y (cond z (scored o) (Err BrokenSteps)) (Err BrokenRecord)) (Err UnsoundPattern) ≡ Ok w
        → (nat_abs w ≤ largest_score p.weighing (length_of xs)) × (nat_abs w < 2 ^ 54)
    by true true true (some v) f g q e = sized f g (q ∙ ap some (the_score v e))
    by true true true none f g q e = refused NotARun e
    by true true false o f g q e = refused BrokenSteps e
    by true false z o f g q e = refused BrokenRecord e
    by false y z o f g q e = refused UnsoundPattern e
