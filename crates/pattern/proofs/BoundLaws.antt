-- What the machine's tests of a signed bound say.
use Prim.Native.Nat.{ℕ, suc, ◌-◌}
use native.Mathlib.Omega.{arith}
use mathlib.Core.Path.{◌≡◌, refl, sym, ◌∙◌}
use mathlib.Core.Bool.{◌&&◌, and-true}
use borrow.Author.Tests.{ne_eqb}
use lib.Dec.{eqb, leb, leb-suc-suc}
use lib.IntN.{ℤ, pos, negsuc, nat_abs}
use lib.Signed.{le_z}
use mir.Syntax.{w32}
use mir.Val.{SFits, of_z}
use Rattle.pattern.specs.Sound.{is_null}

-- zero is the one number whose bits are 0
pub null_bits : (z : ℤ) → SFits w32 z → eqb (of_z w32 z) 0 ≡ is_null z
null_bits (pos n) h = refl
null_bits (negsuc n) h = ne_eqb (4294967296 - suc n) 0 (λ e. omega (arith, h.sfits))

-- a number is at most k in size exactly if it is from -k to k
pub sized : (k : ℕ) (z : ℤ) → le_z (negsuc k) z && le_z z (pos (suc k)) ≡ leb (nat_abs z) (suc k)
sized k (pos n) = refl
sized k (negsuc n) = and-true (leb n k) ∙ sym (leb-suc-suc n k)
