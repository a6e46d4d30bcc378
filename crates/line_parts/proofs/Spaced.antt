-- A number behind a space: the space and the number one by one, as the lines' definitions read them.
use Rattle.std.proofs.Common.{◌≡◌, ℕ, refl}
use Rattle.pattern_text.specs.Bytes.{Bytes, bytes, Reading, got, broken}
use Rattle.pattern_text.specs.Form.{strip, and_then, ◌▸◌, number}
use Rattle.pattern_text.specs.Numeral.{numeral_of}
use Rattle.pattern_text.proofs.Tools.{never}

pub record Spaced (b : Bytes) (n : ℕ) (r : Bytes) : Type 0 where
  pub left : Bytes
  pub space : strip (bytes " ") b ≡ got tt left
  pub digits : numeral_of left ≡ got n r

pub spaced_there : (b : Bytes) (n : ℕ) (r : Bytes) → (" " ▸ number).read b ≡ got n r → Spaced b n r
unfolding ◌▸◌ number
spaced_there b n r e = by (strip (bytes " ") b) refl e
  where
    by : (x : Reading (Unit {0})) → strip (bytes " ") b ≡ x → and_then x (λ _ s. numeral_of s) ≡ got n r → Spaced b n r
    by (got u s) h e = record { left = s; space = h; digits = e }
    by broken h e = never e

-- where it is missing, the space is or the number behind it
pub unspaced : {P : Type 0} (b : Bytes) → (" " ▸ number).read b ≡ broken → (strip (bytes " ") b ≡ broken → P)
    → ((s : Bytes) → strip (bytes " ") b ≡ got tt s → numeral_of s ≡ broken → P) → P
unfolding ◌▸◌ number
unspaced {P} b e space digits = by (strip (bytes " ") b) refl e
  where
    by : (x : Reading (Unit {0})) → strip (bytes " ") b ≡ x → and_then x (λ _ s. numeral_of s) ≡ broken → P
    by (got u s) h e = digits s h e
    by broken h e = space h
