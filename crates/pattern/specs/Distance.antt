-- Distances and the worth of a sample in a place (document 01, 'Record and run'; document 02, R-1).
use Rattle.std.specs.Prelude.{ℕ, ◌^◌, ◌≤◌, ◌<◌, ◌≡◌, true, cond, ◌&&◌, T, get_or, ℤ, pos, nat_abs, ◌-ℤ◌}
use mathlib.Core.List.{List, ◌∷◌, ◌++◌, map, Memᴰ}
use Rattle.std.specs.Int.Signed.{le_z}
use Rattle.integers.specs.Least.{min_z}
use Rattle.weighting.specs.declared.Weighing.{Weighing}
use Rattle.weighting.specs.declared.Weighing.TheVariants.{Margin}
use Rattle.weighting.specs.Weighting.{combine_all}
use Rattle.weighting.proofs.Weightings.{weighting_of}
use Rattle.pattern.specs.declared.Sign.{Sign}
use Rattle.pattern.specs.declared.Sign.TheVariants.{Less, AtMost, More, AtLeast}
use Rattle.pattern.specs.declared.Test.{Test}
use Rattle.pattern.specs.declared.Place.{Place}
use Rattle.pattern.specs.Sound.{bounded, banded, test_in_range}
use Rattle.pattern.specs.InUse.{tests_of}

-- A sample is one value for each channel.
abbrev pub Sample : Type 0
Sample = List ℤ

-- What a channel reads in a sample.
abbrev pub reading_of : Sample → (channel : ℕ) → ℤ
reading_of s k = get_or s k (pos 0)

-- "A test's distance is value - bound for `>` and `>=`, bound - value for `<` and `<=`; it may be negative, and strict
-- signs measure like the others."
abbrev pub distance_from : Sign → (bound value : ℤ) → ℤ
distance_from Less b v = b -ℤ v
distance_from AtMost b v = b -ℤ v
distance_from More b v = v -ℤ b
distance_from AtLeast b v = v -ℤ b

-- A band's is that of the nearer end, and negative outside, whatever the weighing (R-1).
abbrev pub band_distance : (low high value : ℤ) → ℤ
band_distance l h v = min_z (v -ℤ l) (h -ℤ v)

abbrev pub distance_of : Test → (value : ℤ) → ℤ
distance_of t v = cond t.band (band_distance t.bound t.high v) (distance_from t.sign t.bound v)

-- A test's distance in a sample.
abbrev pub distance_in : Sample → Test → ℤ
distance_in s t = distance_of t (reading_of s t.channel)

-- The distances of a place's tests in a sample.
unfoldable pub distances_of : Place → Sample → List ℤ
distances_of l s = map (distance_in s) (tests_of l)

-- What one observation of a sample is worth in a place: "the least distance over its tests" in margin, and 2,000,001
-- without tests; "adds up the distances of all its tests" in sum.
unfoldable pub place_worth : Weighing → Place → Sample → ℤ
place_worth w l s = combine_all (weighting_of w) (distances_of l s)

-- Theorem: values and bounds (a band's ends, too) in document 01's range, -1,000,000 to 1,000,000, are at most 2,000,000
-- apart, so that 2,000,001 stands above every distance.
abbrev pub DistancesInRange : Type 0
DistancesInRange =
    (t : Test) (v : ℤ) → test_in_range t ≡ true → nat_abs v ≤ 1_000_000 → nat_abs (distance_of t v) ≤ 2_000_000

-- Theorem: then a place with tests is worth its least distance in margin; the 2,000,001 that the combination starts from
-- does not show.
abbrev pub MarginIsLeast : Type 0
MarginIsLeast =
    (l : Place) (s : Sample) → ((d : ℤ) → Memᴰ d (distances_of l s) → nat_abs d ≤ 2_000_000)
    → (d : ℤ) → Memᴰ d (distances_of l s)
    → Memᴰ (place_worth Margin l s) (distances_of l s) × T (le_z (place_worth Margin l s) d)

-- Theorem: a band's distance is at least 0 exactly if the value lies in the band.
abbrev pub BandSign : Type 0
BandSign = (c : ℕ) (low high v : ℤ) → le_z (pos 0) (distance_of (banded c low high) v) ≡ le_z low v && le_z v high

-- Theorem: in margin a band is worth, among any tests, what `>=` its low and `<=` its high are worth where it stands.
abbrev pub BandIsTwoTests : Type 0
BandIsTwoTests =
    (l m : Place) (before after : List Test) (c : ℕ) (low high : ℤ)
    → tests_of l ≡ before ++ banded c low high ∷ after
    → tests_of m ≡ before ++ bounded AtLeast c low ∷ bounded AtMost c high ∷ after
    → (s : Sample) → place_worth Margin l s ≡ place_worth Margin m s

-- r is the test's distance in the sample. Whatever i32 the value and the bounds are, it is below 2^32 in size, and may be
-- one less than that.
pub record Measured (t : Test) (s : Sample) (r : ℤ) : Type 0 where
  pub is : r ≡ distance_in s t
  pub size : nat_abs r < 2 ^ 32
