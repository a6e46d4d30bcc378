-- A bit of a number with one more bit set.
use Prim.Native.Nat.{ℕ, ◌*◌, ◌/◌, ◌%◌, ◌^◌, ◌<◌, max}
use native.Mathlib.Omega.{arith}
use mathlib.Core.Path.{◌≡◌, ap, ◌∙◌}
use mathlib.Core.Bool.{false}
use borrow.Author.Tests.{eqb-false}
use lib.Dec.{eqb}
use lib.Bits.{bit_or, or_shr, or_step}
use lib.Pow.{shl-shr, shr_le, shl_exact}
use Rattle.flags.specs.Flags.{bit_at}

-- a bit below 32 is a number of 32 bits
pub bit_fits : (i : ℕ) → i < 32 → 1 * 2 ^ i % 2 ^ 32 ≡ 2 ^ i
bit_fits i h = shl_exact {a = 1} 1 i 32 (omega arith) (omega arith) ∙ (omega arith)

-- a bit is set in one of two numbers together if it is in either
or_bit : (x y i : ℕ) → bit_at (bit_or x y) i ≡ max (bit_at x i) (bit_at y i)
or_bit x y i = ap (λ (z : ℕ). z % 2) (or_shr x y i ∙ or_step (x / 2 ^ i) (y / 2 ^ i)) ∙ (omega arith)

-- what is set stays so
pub or-keeps : (x y i : ℕ) → bit_at (bit_or x y) i ≡ 0 → bit_at x i ≡ 0
or-keeps x y i h = let e = or_bit x y i in omega arith

-- the bit that is set
pub or_sets : (x i : ℕ) → bit_at (bit_or x (2 ^ i)) i ≡ 0 → ⊥
or_sets x i h =
    let e = or_bit x (2 ^ i) i in
    let one : 1 * 2 ^ i ≡ 2 ^ i = omega arith in
    let o : bit_at (2 ^ i) i ≡ 1 = ap (λ (z : ℕ). z % 2) (rw one at (shl-shr 1 i)) in
    omega arith

-- no bit of 0 is
pub no_bit : (i : ℕ) → bit_at 0 i ≡ 0
no_bit i = let h = shr_le 0 i in omega arith

-- a bit that is not set is 0
pub bit_unset : (x i : ℕ) → eqb (bit_at x i) 1 ≡ false → bit_at x i ≡ 0
bit_unset x i h = let z = eqb-false (bit_at x i) 1 h in omega (arith, z)
