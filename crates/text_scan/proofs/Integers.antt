-- Integers, from a number or a number after a minus.
use Rattle.std.proofs.Common.{◌≡◌, ℕ, zero, suc, ◌-◌, ◌≤◌, ◌<◌, [], ◌∷◌, refl, ap, ◌∙◌, arith}
use borrow.Author.Tests.{lt-ltb}
use lib.IntN.{ℤ, pos, negsuc, ◌-ℤ◌}
use mir.Syntax.{w32}
use mir.Val.{SFits, to_z, of_z}
use mir.Facts.{to_z_pos, to_z-of_z}
use Rattle.pattern_text.specs.Bytes.{Bytes, Reading, got, broken}
use Rattle.pattern_text.specs.Numeral.{numeral_of}
use Rattle.pattern_text.specs.Form.{strip, giving, and_then, minus, integer}
use Rattle.text_scan.specs.Scan.{cap, held_number, held_integer}
use Rattle.text_scan.proofs.Answered.{met, unmet}

-- a number up to the cap, as a signed one
pub small-fits : (v : ℕ) → v ≤ cap → SFits w32 (pos v)
small-fits v h = record { sfits = omega arith }

pub small_is : (v : ℕ) → v ≤ cap → to_z w32 v ≡ pos v
small_is v h = to_z_pos w32 (small-fits v h).sfits

-- and negated
negative : (v : ℕ) → 0 < v → pos 0 -ℤ pos v ≡ negsuc (v - 1)
negative zero h = absurd (omega arith)
negative (suc v) h = rw (lt-ltb 0 (suc v) h) (ap negsuc (omega arith))

pub negated_fits : (v : ℕ) → v ≤ cap → 0 < v → SFits w32 (pos 0 -ℤ to_z w32 v)
negated_fits v h k = rw (small_is v h, negative v k) (record { sfits = omega arith })

pub negated_is : (v : ℕ) → v ≤ cap → 0 < v → to_z w32 (of_z w32 (pos 0 -ℤ to_z w32 v)) ≡ negsuc (v - 1)
negated_is v h k = to_z-of_z (negated_fits v h k) ∙ ap (λ (z : ℤ). pos 0 -ℤ z) (small_is v h) ∙ negative v k

module _ (t : Bytes) where
  pub number_small : (v : ℕ) (r : Bytes) → got v r ≡ giving held_number (numeral_of t) → v ≤ cap
  number_small v r e = omega (arith, (met held_number (numeral_of t) e).made)

  -- without a minus
  pub integer_plain : (v : ℕ) (r : Bytes) → got v r ≡ giving held_number (numeral_of t) → got (to_z w32 v) r ≡ giving held_integer (integer.read t)
  unfolding integer
  integer_plain v r e =
      let k = met held_number (numeral_of t) e in
      rw (k.is, small_is v (number_small v r e)) (ap (λ (x : ℕ). got (pos x) r) k.made)

  pub integer_none : broken ≡ giving held_number (numeral_of t) → broken ≡ strip (45 ∷ []) t → broken ≡ giving held_integer (integer.read t)
  unfolding integer
  integer_none e f = rw (unmet held_number (numeral_of t) e, ← f) refl

  pub integer_minus : (o : Reading ℤ) (r : Bytes) → broken ≡ giving held_number (numeral_of t) → got tt r ≡ strip (45 ∷ []) t
      → o ≡ giving held_integer (and_then (numeral_of r) minus) → o ≡ giving held_integer (integer.read t)
  unfolding integer
  integer_minus o r e f g = rw (unmet held_number (numeral_of t) e, ← f) g

-- an integer that is held is an i32
pub held_fits : (z : ℤ) → SFits w32 (held_integer z)
held_fits (pos n) = record { sfits = omega arith }
held_fits (negsuc n) = record { sfits = omega arith }

pub held_back : (v z : ℤ) → v ≡ held_integer z → to_z w32 (of_z w32 v) ≡ v
held_back v z e = rw e (to_z-of_z (held_fits z))
