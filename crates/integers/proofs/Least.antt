-- The lesser and the greater of two: each is one omega over what Linear says of them.
use mathlib.Core.Path.{◌≡◌}
use native.Mathlib.Omega.{arith}
use lib.Dec.{T}
use lib.IntN.{ℤ}
use lib.Signed.{le_z}
use Rattle.integers.specs.Least.{min_z, max_z}
use Rattle.integers.proofs.Linear.{eq_of, T_le_of, of_T_le, min-is, max-is}

-- ---- the lesser: below both, and above all that is below both

pub min-left : (a b : ℤ) → T (le_z (min_z a b) a)
min-left a b = of_T_le (min_z a b) a (omega (arith, min-is a b))

pub min-right : (a b : ℤ) → T (le_z (min_z a b) b)
min-right a b = of_T_le (min_z a b) b (omega (arith, min-is a b))

pub min-bound : (x a b : ℤ) → T (le_z x a) → T (le_z x b) → T (le_z x (min_z a b))
min-bound x a b h k = of_T_le x (min_z a b) (omega (arith, min-is a b, T_le_of x a h, T_le_of x b k))

pub min_mono : (a b c : ℤ) → T (le_z a b) → T (le_z (min_z a c) (min_z b c))
min_mono a b c h = of_T_le (min_z a c) (min_z b c) (omega (arith, min-is a c, min-is b c, T_le_of a b h))

pub min_assoc : (a b c : ℤ) → min_z (min_z a b) c ≡ min_z a (min_z b c)
min_assoc a b c = eq_of _ _ (omega (arith, min-is a b, min-is (min_z a b) c, min-is b c, min-is a (min_z b c)))

pub min_comm : (a b : ℤ) → min_z a b ≡ min_z b a
min_comm a b = eq_of _ _ (omega (arith, min-is a b, min-is b a))

pub min_self : (a : ℤ) → min_z a a ≡ a
min_self a = eq_of _ _ (omega (arith, min-is a a))

-- which of the two it is
pub min-first : (a b : ℤ) → T (le_z a b) → min_z a b ≡ a
min-first a b h = eq_of _ _ (omega (arith, min-is a b, T_le_of a b h))

pub min-second : (a b : ℤ) → T (le_z b a) → min_z a b ≡ b
min-second a b h = eq_of _ _ (omega (arith, min-is a b, T_le_of b a h))

-- ---- the greater: above both, and below all that is above both

pub max-left : (a b : ℤ) → T (le_z a (max_z a b))
max-left a b = of_T_le a (max_z a b) (omega (arith, max-is a b))

pub max-right : (a b : ℤ) → T (le_z b (max_z a b))
max-right a b = of_T_le b (max_z a b) (omega (arith, max-is a b))

pub max-bound : (x a b : ℤ) → T (le_z a x) → T (le_z b x) → T (le_z (max_z a b) x)
max-bound x a b h k = of_T_le (max_z a b) x (omega (arith, max-is a b, T_le_of a x h, T_le_of b x k))

pub max_mono : (a b c : ℤ) → T (le_z a b) → T (le_z (max_z a c) (max_z b c))
max_mono a b c h = of_T_le (max_z a c) (max_z b c) (omega (arith, max-is a c, max-is b c, T_le_of a b h))

pub max_assoc : (a b c : ℤ) → max_z (max_z a b) c ≡ max_z a (max_z b c)
max_assoc a b c = eq_of _ _ (omega (arith, max-is a b, max-is (max_z a b) c, max-is b c, max-is a (max_z b c)))

pub max_comm : (a b : ℤ) → max_z a b ≡ max_z b a
max_comm a b = eq_of _ _ (omega (arith, max-is a b, max-is b a))

pub max_self : (a : ℤ) → max_z a a ≡ a
max_self a = eq_of _ _ (omega (arith, max-is a a))

-- which of the two it is
pub max-first : (a b : ℤ) → T (le_z b a) → max_z a b ≡ a
max-first a b h = eq_of _ _ (omega (arith, max-is a b, T_le_of b a h))

pub max-second : (a b : ℤ) → T (le_z a b) → max_z a b ≡ b
max-second a b h = eq_of _ _ (omega (arith, max-is a b, T_le_of a b h))
