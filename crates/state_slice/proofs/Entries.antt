-- An entry that passed its test fits the machine's type.
use Prim.Native.Nat.{ℕ, ◌≤◌}
use native.Mathlib.Omega.{arith}
use mathlib.Core.Path.{◌≡◌, refl, ◌∙◌}
use mathlib.Core.Bool.{Bool, true, false}
use borrow.Author.Tests.{leb-true}
use lib.Dec.{T}
use Rattle.std.specs.Prelude.{Result, Ok, Err, Some, None, OkIff}
use Rattle.std.specs.Result.{result_ok}
use Rattle.std.specs.Int.{FitsUnsignedBits}
use lib.IntN.{ℤ, pos, negsuc, nat_abs}
use lib.Signed.{le_z, non_neg}
use mir.Syntax.{w32}
use mir.Val.{Fits, SFits}
use Rattle.integers.proofs.Linear.{le_of, of_le, pos_is, negsuc_is, abs_is, mag_is}
use Rattle.pattern.proofs.SoundLaws.{both}
use Rattle.record.specs.Record.{value_in_range}
use Rattle.state_slice.specs.Slice.{is_ticks, is_value}

pub value-fits : (z : ℤ) → is_value z ≡ true → SFits w32 z
unfolding is_value
value-fits z e =
    let h = both (le_z (negsuc 2147483647) z) (le_z z (pos 2147483647)) e in
    record { sfits = omega (arith, mag_is z, le_of (negsuc 2147483647) z h.0, le_of z (pos 2147483647) h.1, negsuc_is 2147483647, pos_is 2147483647) }

pub ticks-sign : (z : ℤ) → is_ticks z ≡ true → T (non_neg z)
unfolding is_ticks
ticks-sign (pos n) e = tt
ticks-sign (negsuc n) e = let z : ◌≡◌ {A = ℕ} 0 1 = cc in absurd (omega arith)

pub ticks-fits : (z : ℤ) → is_ticks z ≡ true → Fits w32 (nat_abs z)
unfolding is_ticks
ticks-fits z e =
    let h = both (le_z (pos 0) z) (le_z z (pos 4294967295)) e in
    record { fits = omega (arith, abs_is z, le_of (pos 0) z h.0, le_of z (pos 4294967295) h.1, pos_is 0, pos_is 4294967295) }

pub is-ticks : (n : ℕ) → n ≤ 4294967295 → is_ticks (pos n) ≡ true
unfolding is_ticks
is-ticks n h = rw (of_le (pos 0) (pos n) (omega (arith, pos_is 0, pos_is n)), of_le (pos n) (pos 4294967295) (omega (arith, pos_is n, pos_is 4294967295)))

-- a value in document 01's range is one of 32 bits
pub in-range-is-value : (z : ℤ) → value_in_range z ≡ true → is_value z ≡ true
unfolding is_value
in-range-is-value z e =
    let h = leb-true (nat_abs z) 1000000 e in
    rw (of_le (negsuc 2147483647) z (omega (arith, abs_is z, negsuc_is 2147483647)), of_le z (pos 2147483647) (omega (arith, abs_is z, pos_is 2147483647)))

-- ---- an entry that is converted: what is told, and what can be told

pub ticks_told : {E : Type 0} (z : ℤ) (r : Result ℕ E) (n : ℕ) → OkIff r (FitsUnsignedBits 32 z) (nat_abs z) → Some n ≡ result_ok r → (is_ticks z ≡ true) × (n ≡ nat_abs z)
ticks_told (pos k) (Ok m) n h e = let x : n ≡ m = cc in let l = h.0 in let q : m ≡ k = h.1 in (is-ticks k (omega arith), x ∙ q)
ticks_told (negsuc k) (Ok m) n h e = absurd h.0
ticks_told z (Err _) n h e = cc

pub no_ticks_told : {E : Type 0} (z : ℤ) (r : Result ℕ E) → OkIff r (FitsUnsignedBits 32 z) (nat_abs z) → None ≡ result_ok r → is_ticks z ≡ false
no_ticks_told z (Ok m) h e = cc
no_ticks_told z (Err _) h e = by (is_ticks z) refl
  where
    fits : (x : ℤ) → is_ticks x ≡ true → FitsUnsignedBits 32 x
    fits (pos n) k = let f = (ticks-fits (pos n) k).fits in omega arith
    fits (negsuc n) k = absurd (ticks-sign (negsuc n) k)

    by : (t : Bool) → is_ticks z ≡ t → t ≡ false
    by true k = absurd (h (fits z k))
    by false k = refl

pub is-value : (z : ℤ) → SFits w32 z → is_value z ≡ true
unfolding is_value
is-value z f =
    rw (of_le (negsuc 2147483647) z (omega (arith, mag_is z, negsuc_is 2147483647, f.sfits)), of_le z (pos 2147483647) (omega (arith, mag_is z, pos_is 2147483647, f.sfits)))

pub value_told : {E : Type 0} (z : ℤ) (r : Result ℤ E) (v : ℤ) → OkIff r (SFits w32 z) z → Some v ≡ result_ok r → SFits w32 z × (is_value z ≡ true) × (v ≡ z)
value_told z (Ok m) v h e = let x : v ≡ m = cc in (h.0, is-value z h.0, x ∙ h.1)
value_told z (Err _) v h e = cc

pub no_value_told : {E : Type 0} (z : ℤ) (r : Result ℤ E) → OkIff r (SFits w32 z) z → None ≡ result_ok r → is_value z ≡ false
no_value_told z (Ok m) h e = cc
no_value_told z (Err _) h e = by (is_value z) refl
  where
    by : (t : Bool) → is_value z ≡ t → t ≡ false
    by true k = absurd (h (value-fits z k))
    by false k = refl
