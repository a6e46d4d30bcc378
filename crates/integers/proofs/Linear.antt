-- Linear arithmetic on ℤ by omega, which reads only ℕ: a number z is up z - down z, one of which is 0, and each fact
-- on ℤ is a linear fact on those. Facts in (`le_of`: what a test says), facts out (`of_le`: what makes a test so).
use Prim.Native.Nat.{ℕ, zero, suc, ◌+◌, ◌-◌, ◌≤◌, ◌<◌, min, max}
use native.Mathlib.Omega.{arith}
use mathlib.Core.Path.{◌≡◌, refl, sym, ap, ◌∙◌}
use mathlib.Core.Bool.{Bool, true, false, not}
use borrow.Author.Tests.{leb-true, leb-false, lt-ltb, le-ltb, not-true, not-false}
use lib.Dec.{T, ltb, leb, ltb→lt, nltb→le}
use lib.IntN.{ℤ, pos, negsuc, neg_ℤ, sub_ℕ, ◌+ℤ◌, ◌-ℤ◌, nat_abs}
use lib.Signed.{mag, lt_z, le_z}
use Rattle.integers.specs.Least.{min_z, max_z}
use Rattle.integers.proofs.Tests.{is_true, is_false, T_true, T_false, true_T, false_T, by_cond}

unfoldable pub up : ℤ → ℕ
up (pos n) = n
up (negsuc n) = 0

unfoldable pub down : ℤ → ℕ
down (pos n) = 0
down (negsuc n) = suc n

-- ---- the two of a literal, of a size, and of the machine's range

pub pos_is : (n : ℕ) → (up (pos n) ≡ n) × (down (pos n) ≡ 0)
unfolding up down
pos_is n = (refl, refl)

pub negsuc_is : (n : ℕ) → (up (negsuc n) ≡ 0) × (down (negsuc n) ≡ suc n)
unfolding up down
negsuc_is n = (refl, refl)

-- the size, and that one of the two is 0
pub abs_is : (a : ℤ) → (nat_abs a ≡ up a + down a) × (min (up a) (down a) ≡ 0)
unfolding up down
abs_is (pos n) = (omega arith, omega arith)
abs_is (negsuc n) = (omega arith, omega arith)

-- `SFits` bounds `mag`
pub mag_is : (a : ℤ) → (mag a ≡ up a + (down a - 1)) × (min (up a) (down a) ≡ 0)
unfolding up down
mag_is (pos n) = (omega arith, omega arith)
mag_is (negsuc n) = (omega arith, omega arith)

-- ---- sums

sub_law : (a b : ℕ) → up (sub_ℕ a b) + b ≡ down (sub_ℕ a b) + a
unfolding up down
sub_law a b =
    by_cond (λ z. up z + b ≡ down z + a) (ltb a b) (negsuc (b - suc a)) (pos (a - b))
    (λ t. let h = ltb→lt a b t in omega arith)
    (λ t. let h = nltb→le a b t in omega arith)

pub add_is : (a b : ℤ) → up (a +ℤ b) + (down a + down b) ≡ down (a +ℤ b) + (up a + up b)
unfolding up down
add_is (pos a) (pos b) = omega arith
add_is (pos a) (negsuc b) = omega (arith, sub_law a (suc b))
add_is (negsuc a) (pos b) = omega (arith, sub_law b (suc a))
add_is (negsuc a) (negsuc b) = omega arith

pub neg_is : (a : ℤ) → (up (neg_ℤ a) ≡ down a) × (down (neg_ℤ a) ≡ up a)
unfolding up down
neg_is (pos zero) = (refl, refl)
neg_is (pos (suc a)) = (refl, refl)
neg_is (negsuc a) = (refl, refl)

pub sub_is : (a b : ℤ) → up (a -ℤ b) + (down a + up b) ≡ down (a -ℤ b) + (up a + down b)
sub_is a b = let n = neg_is b in omega (arith, add_is a (neg_ℤ b))

-- ---- equality

pub eq_of : (a b : ℤ) → up a + down b ≡ up b + down a → a ≡ b
unfolding up down
eq_of (pos a) (pos b) e = ap pos (omega arith)
eq_of (pos a) (negsuc b) e = absurd (omega arith)
eq_of (negsuc a) (pos b) e = absurd (omega arith)
eq_of (negsuc a) (negsuc b) e = ap negsuc (omega arith)

-- ---- order, as `le_z` and `lt_z` test it

ltb-not-leb : (a b : ℕ) → ltb a b ≡ not (leb b a)
ltb-not-leb a b = by (leb b a) refl
  where
    by : (t : Bool) → leb b a ≡ t → ltb a b ≡ not t
    by true e = le-ltb a b (leb-true b a e)
    by false e = lt-ltb a b (leb-false b a e)

pub le_of : (a b : ℤ) → le_z a b ≡ true → up a + down b ≤ up b + down a
unfolding up down
le_of (pos a) (pos b) e = omega (arith, leb-true)
le_of (pos a) (negsuc b) e = let z : ◌≡◌ {A = ℕ} 0 1 = cc in omega arith
le_of (negsuc a) (pos b) e = omega arith
le_of (negsuc a) (negsuc b) e = omega (arith, leb-true)

pub gt_of : (a b : ℤ) → le_z a b ≡ false → up b + down a < up a + down b
unfolding up down
gt_of (pos a) (pos b) e = omega (arith, leb-false)
gt_of (pos a) (negsuc b) e = omega arith
gt_of (negsuc a) (pos b) e = let z : ◌≡◌ {A = ℕ} 0 1 = cc in omega arith
gt_of (negsuc a) (negsuc b) e = omega (arith, leb-false)

pub of_le : (a b : ℤ) → up a + down b ≤ up b + down a → le_z a b ≡ true
of_le a b h = is_true (le_z a b) (λ e. omega (arith, gt_of a b e))

pub of_gt : (a b : ℤ) → up b + down a < up a + down b → le_z a b ≡ false
of_gt a b h = is_false (le_z a b) (λ e. omega (arith, le_of a b e))

-- less than is not at least, turned round
pub lt_not_le : (a b : ℤ) → lt_z a b ≡ not (le_z b a)
lt_not_le (pos a) (pos b) = ltb-not-leb a b
lt_not_le (pos a) (negsuc b) = refl
lt_not_le (negsuc a) (pos b) = refl
lt_not_le (negsuc a) (negsuc b) = ltb-not-leb b a

pub lt_of : (a b : ℤ) → lt_z a b ≡ true → up a + down b < up b + down a
lt_of a b e = gt_of b a (not-true (le_z b a) (sym (lt_not_le a b) ∙ e))

pub ge_of : (a b : ℤ) → lt_z a b ≡ false → up b + down a ≤ up a + down b
ge_of a b e = le_of b a (not-false (le_z b a) (sym (lt_not_le a b) ∙ e))

pub of_lt : (a b : ℤ) → up a + down b < up b + down a → lt_z a b ≡ true
of_lt a b h = lt_not_le a b ∙ ap not (of_gt b a h)

pub of_ge : (a b : ℤ) → up b + down a ≤ up a + down b → lt_z a b ≡ false
of_ge a b h = lt_not_le a b ∙ ap not (of_le b a h)

-- ---- the same where the test's outcome stands under T

pub T_le_of : (a b : ℤ) → T (le_z a b) → up a + down b ≤ up b + down a
T_le_of a b h = le_of a b (T_true (le_z a b) h)

pub T_gt_of : (a b : ℤ) → T (not (le_z a b)) → up b + down a < up a + down b
T_gt_of a b h = gt_of a b (T_false (le_z a b) h)

pub T_lt_of : (a b : ℤ) → T (lt_z a b) → up a + down b < up b + down a
T_lt_of a b h = lt_of a b (T_true (lt_z a b) h)

pub T_ge_of : (a b : ℤ) → T (not (lt_z a b)) → up b + down a ≤ up a + down b
T_ge_of a b h = ge_of a b (T_false (lt_z a b) h)

pub of_T_le : (a b : ℤ) → up a + down b ≤ up b + down a → T (le_z a b)
of_T_le a b h = true_T (le_z a b) (of_le a b h)

pub of_T_gt : (a b : ℤ) → up b + down a < up a + down b → T (not (le_z a b))
of_T_gt a b h = false_T (le_z a b) (of_gt a b h)

pub of_T_lt : (a b : ℤ) → up a + down b < up b + down a → T (lt_z a b)
of_T_lt a b h = true_T (lt_z a b) (of_lt a b h)

pub of_T_ge : (a b : ℤ) → up b + down a ≤ up a + down b → T (not (lt_z a b))
of_T_ge a b h = false_T (lt_z a b) (of_ge a b h)

-- ---- the lesser and the greater of two, by the min and max that omega reads

pub min-is : (a b : ℤ) → up (min_z a b) + (down a + down b) ≡ down (min_z a b) + min (up a + down b) (up b + down a)
unfolding min_z
min-is a b =
    by_cond (λ z. up z + (down a + down b) ≡ down z + min (up a + down b) (up b + down a)) (le_z a b) a b
    (λ h. omega (arith, T_le_of a b h))
    (λ h. omega (arith, T_gt_of a b h))

pub max-is : (a b : ℤ) → up (max_z a b) + (down a + down b) ≡ down (max_z a b) + max (up a + down b) (up b + down a)
unfolding max_z
max-is a b =
    by_cond (λ z. up z + (down a + down b) ≡ down z + max (up a + down b) (up b + down a)) (le_z a b) b a
    (λ h. omega (arith, T_le_of a b h))
    (λ h. omega (arith, T_gt_of a b h))
