-- `le_z` is a total order that a Bool tests. That `lt_z a b` is `not (le_z b a)` is Linear's `lt_not_le`.
use mathlib.Core.Path.{◌≡◌}
use mathlib.Core.Bool.{not}
use native.Mathlib.Omega.{arith}
use lib.Dec.{T}
use lib.IntN.{ℤ}
use lib.Signed.{le_z}
use Rattle.integers.proofs.Linear.{eq_of, T_le_of, T_gt_of, of_T_le}

pub le-self : (a : ℤ) → T (le_z a a)
le-self a = of_T_le a a (omega arith)

pub le-through : (a b c : ℤ) → T (le_z a b) → T (le_z b c) → T (le_z a c)
le-through a b c h k = of_T_le a c (omega (arith, T_le_of a b h, T_le_of b c k))

pub le-either : (a b : ℤ) → T (not (le_z a b)) → T (le_z b a)
le-either a b h = of_T_le b a (omega (arith, T_gt_of a b h))

pub le-equal : (a b : ℤ) → T (le_z a b) → T (le_z b a) → a ≡ b
le-equal a b h k = eq_of a b (omega (arith, T_le_of a b h, T_le_of b a k))
