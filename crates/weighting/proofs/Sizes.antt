-- The size of a combination, for margin and sum alike, and that it fits an i64.
use Prim.Native.Nat.{ℕ, ◌+◌, ◌*◌, ◌≤◌, ◌<◌, ◌^◌, max}
use native.Mathlib.Nat.{suc-mul}
use native.Mathlib.Omega.{arith}
use mathlib.Core.Path.{refl}
use mathlib.Core.List.{List, [], ◌∷◌, Memᴰ}
use lib.ListN.{length}
use lib.IntN.{ℤ, nat_abs}
use mir.Syntax.{w64}
use mir.Val.{SFits}
use Rattle.integers.proofs.Ranges.{abs_add, abs_min, abs_fits}
use Rattle.weighting.specs.declared.Weighing.{Weighing}
use Rattle.weighting.specs.declared.Weighing.TheVariants.{Margin, Sum}
use Rattle.weighting.specs.Weighting.{combine_from}
use Rattle.weighting.proofs.Weightings.{weighting_of, margin}

-- ---- two

pub unit_size : (w : Weighing) → nat_abs (weighting_of w).unit ≤ 2_000_001
unit_size Margin = omega arith
unit_size Sum = omega arith

pub combine-size : (w : Weighing) (a b : ℤ) → nat_abs ((weighting_of w).combine a b) ≤ nat_abs a + nat_abs b
combine-size Margin a b = omega (arith, abs_min a b)
combine-size Sum a b = abs_add a b

pub combine-fits : (w : Weighing) (a b : ℤ) → nat_abs a + nat_abs b < 2 ^ 63 → SFits w64 ((weighting_of w).combine a b)
combine-fits w a b h = abs_fits w64 ((weighting_of w).combine a b) (omega (arith, combine-size w a b))

-- ---- many

-- none of a list is above k in size
abbrev pub Within : ℕ → List ℤ → Type 0
Within k l = (a : ℤ) → Memᴰ a l → nat_abs a ≤ k

pub combine_from-size : (w : Weighing) (k : ℕ) (a : ℤ) (l : List ℤ) → Within k l → nat_abs (combine_from (weighting_of w) a l) ≤ nat_abs a + length l * k
unfolding combine_from
combine_from-size w k a [] h = omega arith
combine_from-size w k a (x ∷ l) h =
    let b = combine_from-size w k ((weighting_of w).combine a x) l (λ y m. h y (Memᴰ.tail m)) in
    rw suc-mul (omega (arith, combine-size w a x, h x (Memᴰ.head refl)))

-- in margin it does not grow
pub margin-size : (k : ℕ) (a : ℤ) (l : List ℤ) → Within k l → nat_abs (combine_from margin a l) ≤ max (nat_abs a) k
unfolding combine_from
margin-size k a [] h = omega arith
margin-size k a (x ∷ l) h =
    let b = margin-size k (margin.combine a x) l (λ y m. h y (Memᴰ.tail m)) in
    omega (arith, abs_min a x, h x (Memᴰ.head refl))
