-- A place's worth of a sample: always a worth; in a sound pattern, of values in range, at most 8,000,000 in size, and in
-- margin at most 2,000,001; the unit where the place has no tests, as all places past the last.
use Prim.Native.Nat.{ℕ, zero, suc, ◌+◌, ◌-◌, ◌≤◌, ◌<◌}
use native.Mathlib.Nat.{mul-le-mul_right}
use native.Mathlib.Omega.{arith}
use mathlib.Core.Path.{◌≡◌, refl, sym, ap, subst, ◌∙◌}
use mathlib.Core.List.Memᴰ
use mathlib.Core.List.{List, [], ◌∷◌, map}
use mathlib.Core.Bool.{Bool, true, false, ◌&&◌}
use mathlib.Core.Logic.{⊎_elim}
use borrow.Author.Tests.{leb-true, ltb-true, ltb-false, eqb-true}
use lib.Dec.{T, eqb, ltb}
use lib.ListN.{length, take, drop, length-map, length-take, length-drop, get_or-eq_default}
use lib.Seq.{get_or-take, get_or-drop, length-take-le}
use lib.IntN.{ℤ, pos, nat_abs}
use Rattle.integers.specs.Least.{min_z}
use Rattle.integers.proofs.Order.{le-through}
use Rattle.integers.proofs.Least.{min-left}
use Rattle.weighting.specs.declared.Weighing.{Weighing}
use Rattle.weighting.specs.declared.Weighing.TheVariants.{Margin, Sum}
use Rattle.weighting.specs.Weighting.{combine_from}
use Rattle.weighting.proofs.Weightings.{weighting_of}
use Rattle.weighting.proofs.Sizes.{Within, combine_from-size, margin-size}
use Rattle.pattern.specs.declared.Test.{Test}
use Rattle.pattern.specs.declared.Place.{Place}
use Rattle.pattern.specs.declared.Pattern.{Pattern}
use Rattle.pattern.specs.Slots.{all, slots}
use Rattle.pattern.specs.Sound.{no_place, is_plain, test_in_range, test_unused, test_sound, place_unused, place_sound, sound_of}
use Rattle.pattern.specs.InUse.{tests_of, place_at}
use Rattle.pattern.specs.Distance.{Sample, reading_of, distance_in, distances_of, place_worth}
use Rattle.pattern.proofs.Claims.{distances_in-range}
use Rattle.pattern.proofs.SoundLaws.{both, slotted, parts, test_parts}
use Rattle.record.specs.Record.{value_in_range}
use Rattle.record.proofs.ListLaws.{all-at}

-- ---- worths

-- a worth stays one, whatever is combined with it
pub stays-worth : (w : Weighing) (a b : ℤ) → T ((weighting_of w).worth a) → T ((weighting_of w).worth ((weighting_of w).combine a b))
stays-worth Margin a b h = le-through (min_z a b) a (pos 2000001) (min-left a b) h
stays-worth Sum a b h = tt

pub stays-worth-all : (w : Weighing) (a : ℤ) (l : List ℤ) → T ((weighting_of w).worth a) → T ((weighting_of w).worth (combine_from (weighting_of w) a l))
unfolding combine_from
stays-worth-all w a [] h = h
stays-worth-all w a (x ∷ l) h = stays-worth-all w ((weighting_of w).combine a x) l (stays-worth w a x h)

pub place-is-worth : (w : Weighing) (l : Place) (x : Sample) → T ((weighting_of w).worth (place_worth w l x))
unfolding place_worth
place-is-worth w l x = stays-worth-all w (weighting_of w).unit (distances_of l x) (weighting_of w).unit_worth

-- ---- sizes

reading-size : (x : Sample) (k : ℕ) → all value_in_range x ≡ true → nat_abs (reading_of x k) ≤ 1000000
reading-size [] k e = omega arith
reading-size (v ∷ x) zero e = leb-true (nat_abs v) 1000000 (both (value_in_range v) (all value_in_range x) e).0
reading-size (v ∷ x) (suc k) e = reading-size x k (both (value_in_range v) (all value_in_range x) e).1

pub distance_size : (x : Sample) (t : Test) → all value_in_range x ≡ true → test_in_range t ≡ true → nat_abs (distance_in x t) ≤ 2000000
distance_size x t e h = distances_in-range t (reading_of x t.channel) h (reading-size x t.channel e)

distances_size : (channels : ℕ) (x : Sample) (ts : List Test) → all value_in_range x ≡ true → all (test_sound channels) ts ≡ true
    → Within 2000000 (map (distance_in x) ts)
distances_size n x [] e h a m = absurd (Memᴰ.not-nil m)
distances_size n x (t ∷ ts) e h a m =
    let k = both (test_sound n t) (all (test_sound n) ts) h in
    ⊎_elim
    (λ q. subst (λ (z : ℤ). nat_abs z ≤ 2000000) (sym q) (distance_size x t e (test_parts n t k.0).in_range))
    (λ q. distances_size n x ts e k.1 a q)
    (Memᴰ.cases_cons m)

module _ (channels : ℕ) (l : Place) (x : Sample) (h : place_sound channels l ≡ true) (e : all value_in_range x ≡ true) where
  within : Within 2000000 (distances_of l x)
  unfolding place_sound distances_of
  within = distances_size channels x (tests_of l) e (slotted h).front

  few : length (distances_of l x) ≤ 4
  unfolding place_sound distances_of
  few =
      let f = (slotted h).few in
      omega (arith, length-map (tests_of l) (distance_in x), length-take l.count l.tests)

  pub margin-place-size : nat_abs (place_worth Margin l x) ≤ 2000001
  unfolding place_worth
  margin-place-size = omega (arith, margin-size 2000000 (pos 2000001) (distances_of l x) within)

  pub place-size : (w : Weighing) → nat_abs (place_worth w l x) ≤ 8000000
  unfolding place_worth
  place-size Margin = omega (arith, margin-place-size)
  place-size Sum =
      omega (arith, combine_from-size Sum 2000000 (pos 0) (distances_of l x) within, mul-le-mul_right 2000000 few)

-- each place that a sound pattern has
pub place-at-sound : (p : Pattern) (k : ℕ) → sound_of p ≡ true → k < p.placecount → place_sound p.channels (place_at p k) ≡ true
place-at-sound p k h less =
    let s = (parts p h).places in
    let f = s.few in
    let g = s.long in
    let long : length (take p.placecount p.places) ≡ p.placecount = length-take-le p.placecount p.places (omega arith) in
    ap (place_sound p.channels) (sym (get_or-take p.placecount p.places k no_place less))
    ∙ all-at (place_sound p.channels) (take p.placecount p.places) k no_place s.front (omega arith)

-- ---- places without tests

pub testless_worth : (w : Weighing) (l : Place) → tests_of l ≡ [] → (x : Sample) → place_worth w l x ≡ (weighting_of w).unit
unfolding place_worth distances_of combine_from
testless_worth w l none x = rw none

none-unused : place_unused no_place ≡ true
unfolding place_unused slots test_unused
none-unused = refl

-- a place past the last is as an unused one
pub past-unused : (p : Pattern) → sound_of p ≡ true → (k : ℕ) → p.placecount ≤ k → place_unused (place_at p k) ≡ true
past-unused p sound k h = by (ltb k (length p.places)) refl
  where
    by : (t : Bool) → ltb k (length p.places) ≡ t → place_unused (place_at p k) ≡ true
    by true e =
        let i : p.placecount + (k - p.placecount) ≡ k = omega arith in
        let l = length-drop p.placecount p.places in
        let b = ltb-true k (length p.places) e in
        ap place_unused (sym (get_or-drop p.placecount p.places (k - p.placecount) no_place ∙ ap (place_at p) i))
        ∙ all-at place_unused (drop p.placecount p.places) (k - p.placecount) no_place (parts p sound).places.rest (omega arith)
    by false e = rw (get_or-eq_default p.places no_place {n = k} (ltb-false _ _ e)) none-unused

pub past_testless : (p : Pattern) → sound_of p ≡ true → (k : ℕ) → p.placecount ≤ k → tests_of (place_at p k) ≡ []
unfolding place_unused
past_testless p sound k h =
    let u = both (is_plain (place_at p k).kind && eqb (place_at p k).count 0) _ (past-unused p sound k h) in
    let e : (place_at p k).count ≡ 0 = eqb-true _ _ (both (is_plain (place_at p k).kind) (eqb (place_at p k).count 0) u.0).1 in
    rw e
