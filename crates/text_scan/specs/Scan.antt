-- What reading the front of a text answers: what the definitions read there, with numbers held at a limit above their range.
use Rattle.std.specs.Prelude.{ℕ, ◌+◌, ◌-◌, ◌*◌, min, [], ◌∷◌, cond, ℤ, pos, negsuc, Option, Some, None}
use Rattle.std.specs.Borrow.{Bor}
use Rattle.pattern_text.specs.Bytes.{Bytes, Reading, got, broken}
use Rattle.pattern_text.specs.Numeral.{is_digit}

-- ---- an answer, as the reading that it is: what was read, with what is left of the text after it

abbrev pub read_of : {A : Type 0} → Option (A × Bor Bytes) → Reading A
read_of (Some x) = got x.0 x.1.now
read_of None = broken

-- the same where there is nothing to tell but that it stands there
abbrev pub left_of : Option (Bor Bytes) → Reading Unit
left_of (Some r) = got tt r.now
left_of None = broken

-- ---- numbers

-- the digit at the front
abbrev pub digit_of : Bytes → Reading ℕ
digit_of [] = broken
digit_of (c ∷ b) = cond (is_digit c) (got (c - 48) b) broken

-- one digit more, held at a limit
abbrev pub held_digit : (most v d : ℕ) → ℕ
held_digit most v d = min most (v * 10 + d)

-- above every number of a pattern text that has a range or an index
abbrev pub cap : ℕ
cap = 1_000_001

abbrev pub held_number : ℕ → ℕ
held_number = min cap

-- held on both sides of 0
abbrev pub held_integer : ℤ → ℤ
held_integer (pos n) = pos (min cap n)
held_integer (negsuc n) = negsuc (min (cap - 1) n)
