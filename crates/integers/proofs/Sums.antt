-- Sums, differences and negations, beyond the kit's (lib.IntN: `+ℤ_comm`, `+ℤ_assoc`, `+ℤ_idl`, `+ℤ_idr`,
-- `+ℤ-neg_ℤ_cancel`, `-ℤ-+ℤ_cancel`, `neg_ℤ-+ℤ`).
use mathlib.Core.Path.{◌≡◌, refl, sym, ap, ◌∙◌}
use mathlib.Core.Bool.{Bool, true, false}
use native.Mathlib.Omega.{arith}
use lib.Dec.{T}
use lib.IntN.{ℤ, pos, neg_ℤ, ◌+ℤ◌, ◌-ℤ◌, +ℤ_invr, +ℤ-neg_ℤ_cancel}
use lib.Signed.{le_z}
use Rattle.integers.specs.Least.{min_z, max_z}
use Rattle.integers.proofs.Linear.{eq_of, le_of, gt_of, of_le, of_gt, T_le_of, of_T_le, add_is, sub_is, neg_is, min-is, max-is}

-- ---- equations

pub add-swap : (a b c : ℤ) → (a +ℤ b) +ℤ c ≡ (a +ℤ c) +ℤ b
add-swap a b c = eq_of _ _ (omega (arith, add_is a b, add_is (a +ℤ b) c, add_is a c, add_is (a +ℤ c) b))

pub sub_turn : (a b : ℤ) → a -ℤ b ≡ neg_ℤ (b -ℤ a)
sub_turn a b = eq_of _ _ (omega (arith, sub_is a b, sub_is b a, neg_is (b -ℤ a)))

pub sub_self : (a : ℤ) → a -ℤ a ≡ pos 0
sub_self a = +ℤ_invr a

pub add_cancel : (a b c : ℤ) → a +ℤ c ≡ b +ℤ c → a ≡ b
add_cancel a b c e = sym (+ℤ-neg_ℤ_cancel a c) ∙ ap (λ (z : ℤ). z -ℤ c) e ∙ +ℤ-neg_ℤ_cancel b c

-- ---- order

pub add_mono : (a b c : ℤ) → T (le_z a b) → T (le_z (a +ℤ c) (b +ℤ c))
add_mono a b c h = of_T_le (a +ℤ c) (b +ℤ c) (omega (arith, add_is a c, add_is b c, T_le_of a b h))

pub add_mono_both : (a b c d : ℤ) → T (le_z a b) → T (le_z c d) → T (le_z (a +ℤ c) (b +ℤ d))
add_mono_both a b c d h k =
    of_T_le (a +ℤ c) (b +ℤ d) (omega (arith, add_is a c, add_is b d, T_le_of a b h, T_le_of c d k))

pub neg_mono : (a b : ℤ) → T (le_z a b) → T (le_z (neg_ℤ b) (neg_ℤ a))
neg_mono a b h = of_T_le (neg_ℤ b) (neg_ℤ a) (omega (arith, neg_is a, neg_is b, T_le_of a b h))

-- a common summand leaves a test as it is
pub le-add : (a b c : ℤ) → le_z (a +ℤ c) (b +ℤ c) ≡ le_z a b
le-add a b c = by (le_z a b) refl
  where
    by : (t : Bool) → le_z a b ≡ t → le_z (a +ℤ c) (b +ℤ c) ≡ t
    by true e = of_le (a +ℤ c) (b +ℤ c) (omega (arith, le_of a b e, add_is a c, add_is b c))
    by false e = of_gt (a +ℤ c) (b +ℤ c) (omega (arith, gt_of a b e, add_is a c, add_is b c))

-- and goes through the lesser and the greater of two
pub min-add : (a b c : ℤ) → min_z (a +ℤ c) (b +ℤ c) ≡ min_z a b +ℤ c
min-add a b c =
    eq_of _ _ (omega (arith, add_is a c, add_is b c, min-is (a +ℤ c) (b +ℤ c), min-is a b, add_is (min_z a b) c))

pub max-add : (a b c : ℤ) → max_z (a +ℤ c) (b +ℤ c) ≡ max_z a b +ℤ c
max-add a b c =
    eq_of _ _ (omega (arith, add_is a c, add_is b c, max-is (a +ℤ c) (b +ℤ c), max-is a b, add_is (max_z a b) c))
