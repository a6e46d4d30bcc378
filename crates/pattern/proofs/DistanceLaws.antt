-- How large a distance comes, and a place's worth, test by test.
use Prim.Native.Nat.{ℕ, ◌+◌, ◌^◌, ◌<◌, ◌≤◌, max}
use native.Mathlib.Omega.{arith}
use mathlib.Core.Path.{◌≡◌, refl, sym}
use mathlib.Core.List.{List, [], ◌∷◌, map, map-append}
use mathlib.Core.Bool.{Bool, true, false, cond}
use lib.ListN.{length, take, get_or}
use lib.IntN.{ℤ, nat_abs, ◌-ℤ◌}
use mir.Syntax.{w32}
use mir.Val.{SFits}
use Rattle.weighting.specs.declared.Weighing.{Weighing}
use Rattle.weighting.specs.Weighting.{combine_from, combine_all}
use Rattle.weighting.proofs.Weightings.{weighting_of}
use Rattle.weighting.proofs.Worths.{combine_all_snoc}
use Rattle.pattern.specs.declared.Sign.{Sign}
use Rattle.pattern.specs.declared.Sign.TheVariants.{Less, AtMost, More, AtLeast}
use Rattle.pattern.specs.declared.Test.{Test}
use Rattle.pattern.specs.Distance.{Sample, distance_from, band_distance, distance_of, distance_in}
use Rattle.pattern.proofs.ListLaws.{take_more}
use Rattle.integers.proofs.Linear.{abs_is, mag_is, sub_is}
use Rattle.integers.proofs.Ranges.{abs_min}

-- ---- sizes

sub_size : (a b : ℤ) → SFits w32 a → SFits w32 b → nat_abs (a -ℤ b) < 2 ^ 32
sub_size a b p q = omega (arith, p.sfits, q.sfits, mag_is a, mag_is b, sub_is a b, abs_is (a -ℤ b))

-- a band's distance is no larger than both differences
pub inside-size : (l h v : ℤ) → nat_abs (band_distance l h v) ≤ max (nat_abs (v -ℤ l)) (nat_abs (h -ℤ v))
inside-size l h v = abs_min (v -ℤ l) (h -ℤ v)

-- whatever i32 the value and the bounds are
pub distance_size : (t : Test) (v : ℤ) → SFits w32 v → SFits w32 t.bound → SFits w32 t.high → nat_abs (distance_of t v) < 2 ^ 32
distance_size t v p q r = either t.band
  where
    by : (s : Sign) → nat_abs (distance_from s t.bound v) < 2 ^ 32
    by Less = omega (arith, sub_size t.bound v q p, sub_size v t.bound p q)
    by AtMost = omega (arith, sub_size t.bound v q p, sub_size v t.bound p q)
    by More = omega (arith, sub_size t.bound v q p, sub_size v t.bound p q)
    by AtLeast = omega (arith, sub_size t.bound v q p, sub_size v t.bound p q)

    either : (b : Bool) → nat_abs (cond b (band_distance t.bound t.high v) (distance_from t.sign t.bound v)) < 2 ^ 32
    either true = omega (arith, inside-size t.bound t.high v, sub_size v t.bound p q, sub_size t.high v r p)
    either false = by t.sign

-- ---- a place's worth, test by test

-- the worth of the first i tests
unfoldable pub worth_to : Weighing → Sample → List Test → ℕ → ℤ
worth_to w s ts i = combine_all (weighting_of w) (map (distance_in s) (take i ts))

pub worth-none : (w : Weighing) (s : Sample) (ts : List Test) → (weighting_of w).unit ≡ worth_to w s ts 0
unfolding worth_to combine_from
worth-none w s ts = refl

pub worth-more : (w : Weighing) (s : Sample) (ts : List Test) (i : ℕ) (d : Test) → i < length ts
    → (weighting_of w).combine (worth_to w s ts i) (distance_in s (get_or ts i d)) ≡ worth_to w s ts (i + 1)
unfolding worth_to
worth-more w s ts i d h =
    rw (take_more i ts d h, map-append (distance_in s) (take i ts) (get_or ts i d ∷ []))
    (sym (combine_all_snoc (weighting_of w) (map (distance_in s) (take i ts)) (distance_in s (get_or ts i d))))
