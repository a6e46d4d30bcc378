-- What the machine reads back of a signed number, and an i32 that is widened to an i64.
use native.Mathlib.Omega.{arith}
use mathlib.Core.Path.{◌≡◌, sym, subst, ◌∙◌}
use lib.IntN.{ℤ, neg_ℤ, ◌+ℤ◌, ◌-ℤ◌}
use mir.Syntax.{Width, w32, w64}
use mir.Val.{SFits, to_z, of_z}
use mir.Facts.{to_z-of_z, sfits_widen}
use Rattle.integers.proofs.Ranges.{abs_fits, fits_abs, abs_add, abs_sub, abs_neg}

-- mir.Facts.to_z-of_z with its number named, which is never found under `to_z`
pub read_back : (w : Width) (z : ℤ) → SFits w z → to_z w (of_z w z) ≡ z
read_back w z p = to_z-of_z p

-- ---- an i32 as an i64: it fits, and is read back as itself

pub widen_fits : (z : ℤ) → SFits w32 z → SFits w64 (to_z w32 (of_z w32 z))
widen_fits z p = subst (SFits w64) (sym (read_back w32 z p)) (sfits_widen tt p)

pub widen_back : (z : ℤ) → SFits w32 z → to_z w64 (of_z w64 (to_z w32 (of_z w32 z))) ≡ z
widen_back z p = read_back w64 (to_z w32 (of_z w32 z)) (widen_fits z p) ∙ read_back w32 z p

-- ---- two i32 make an i64

pub add-fits : (a b : ℤ) → SFits w32 a → SFits w32 b → SFits w64 (a +ℤ b)
add-fits a b p q = abs_fits w64 (a +ℤ b) (omega (arith, abs_add a b, fits_abs w32 a p, fits_abs w32 b q))

pub sub_fits : (a b : ℤ) → SFits w32 a → SFits w32 b → SFits w64 (a -ℤ b)
sub_fits a b p q = abs_fits w64 (a -ℤ b) (omega (arith, abs_sub a b, fits_abs w32 a p, fits_abs w32 b q))

pub neg-fits : (a : ℤ) → SFits w32 a → SFits w64 (neg_ℤ a)
neg-fits a p = abs_fits w64 (neg_ℤ a) (omega (arith, abs_neg a, fits_abs w32 a p))
