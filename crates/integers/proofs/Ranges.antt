-- A number's size, `nat_abs z`: of sums and of the lesser and greater of two; as a range from -k to k; and that a number
-- of small size fits the machine's signed types.
use Prim.Native.Nat.{ℕ, ◌+◌, ◌≤◌, ◌<◌, ◌^◌, max}
use native.Mathlib.Omega.{arith}
use mathlib.Core.Path.{◌≡◌}
use lib.Dec.{T}
use lib.IntN.{ℤ, pos, neg_ℤ, ◌+ℤ◌, ◌-ℤ◌, nat_abs}
use lib.Signed.{le_z, nat_abs-le}
use mir.Syntax.{Width, w32, w64}
use mir.Val.{hbits, SFits}
use Rattle.integers.specs.Least.{min_z, max_z}
use Rattle.integers.proofs.Linear.{T_le_of, of_T_le, pos_is, abs_is, mag_is, add_is, sub_is, neg_is, min-is, max-is}

-- ---- the size of what is computed

pub abs_add : (a b : ℤ) → nat_abs (a +ℤ b) ≤ nat_abs a + nat_abs b
abs_add a b = omega (arith, abs_is a, abs_is b, abs_is (a +ℤ b), add_is a b)

pub abs_sub : (a b : ℤ) → nat_abs (a -ℤ b) ≤ nat_abs a + nat_abs b
abs_sub a b = omega (arith, abs_is a, abs_is b, abs_is (a -ℤ b), sub_is a b)

pub abs_neg : (a : ℤ) → nat_abs (neg_ℤ a) ≡ nat_abs a
abs_neg a = omega (arith, abs_is a, abs_is (neg_ℤ a), neg_is a)

pub abs_min : (a b : ℤ) → nat_abs (min_z a b) ≤ max (nat_abs a) (nat_abs b)
abs_min a b = omega (arith, abs_is a, abs_is b, abs_is (min_z a b), min-is a b)

pub abs_max : (a b : ℤ) → nat_abs (max_z a b) ≤ max (nat_abs a) (nat_abs b)
abs_max a b = omega (arith, abs_is a, abs_is b, abs_is (max_z a b), max-is a b)

-- ---- a size is a range, both ways

pub abs_low : (z : ℤ) (k : ℕ) → nat_abs z ≤ k → T (le_z (neg_ℤ (pos k)) z)
abs_low z k h = of_T_le (neg_ℤ (pos k)) z (omega (arith, abs_is z, neg_is (pos k), pos_is k))

pub abs_high : (z : ℤ) (k : ℕ) → nat_abs z ≤ k → T (le_z z (pos k))
abs_high z k h = of_T_le z (pos k) (omega (arith, abs_is z, pos_is k))

pub of_range : (z : ℤ) (k : ℕ) → T (le_z (neg_ℤ (pos k)) z) → T (le_z z (pos k)) → nat_abs z ≤ k
of_range z k l h =
    omega (arith, abs_is z, neg_is (pos k), pos_is k, T_le_of (neg_ℤ (pos k)) z l, T_le_of z (pos k) h)

-- ---- the machine's types

-- below half the width's power it fits, and what fits is at most that
pub abs_fits : (w : Width) (z : ℤ) → nat_abs z < 2 ^ hbits w → SFits w z
abs_fits w z h = record { sfits = omega (arith, abs_is z, mag_is z) }

pub abs_fits_64 : (z : ℤ) (k : ℕ) → nat_abs z ≤ k → k < 2 ^ 63 → SFits w64 z
abs_fits_64 z k h l = abs_fits w64 z (omega arith)

pub abs_fits_32 : (z : ℤ) (k : ℕ) → nat_abs z ≤ k → k < 2 ^ 31 → SFits w32 z
abs_fits_32 z k h l = abs_fits w32 z (omega arith)

pub fits_abs : (w : Width) (z : ℤ) → SFits w z → nat_abs z ≤ 2 ^ hbits w
fits_abs w z p = nat_abs-le z p.sfits
