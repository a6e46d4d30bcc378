-- The library's lesser of two is the one that the weightings go by.
use Rattle.std.proofs.Common.{◌≡◌, ℤ}
use Rattle.std.specs.Int.{int_min}
use Rattle.std.specs.Int.Signed.{le_z}
use Rattle.std.specs.Prelude.{Bool, true, false, not, cond, refl}
use Rattle.integers.specs.Least.{min_z}
use Rattle.integers.proofs.Linear.{lt_not_le}

turned : (p : Bool) (a b : ℤ) → cond (not p) b a ≡ cond p a b
turned true a b = refl
turned false a b = refl

pub min_is : (a b : ℤ) → int_min a b ≡ min_z a b
unfolding min_z
min_is a b = rw (lt_not_le b a) (turned (le_z a b) a b)
