-- Numbers in base ten.
use Rattle.std.specs.Prelude.{ℕ, zero, suc, ◌+◌, ◌-◌, ◌*◌, ◌/◌, ◌%◌, [], ◌∷◌, ◌++◌, Bool, true, false, cond, not, ◌&&◌, leb, ltb, eqb}
use Rattle.pattern_text.specs.Bytes.{Bytes, Reading, got, broken}

-- ---- writing. `0` is the byte 48

-- the digits of n, the last one n % 10; the count only has to be large enough
unfoldable pub decimal_f : ℕ → ℕ → Bytes
decimal_f zero n = []
decimal_f (suc f) n = let more = decimal_f f (n / 10) ++ ((48 + n % 10) ∷ []) in cond (ltb n 10) ((48 + n) ∷ []) more

unfoldable pub decimal : ℕ → Bytes
decimal n = decimal_f (suc n) n

-- ---- reading

-- `0` to `9`
abbrev pub is_digit : ℕ → Bool
is_digit c = leb 48 c && ltb c 58

-- whether a digit stands at the front
abbrev pub starts_digit : Bytes → Bool
starts_digit [] = false
starts_digit (c ∷ b) = is_digit c

-- the digits at the front, and what follows them
unfoldable pub front : Bytes → Bytes
front [] = []
front (c ∷ b) = cond (is_digit c) (c ∷ front b) []

unfoldable pub after : Bytes → Bytes
after [] = []
after (c ∷ b) = cond (is_digit c) (after b) (c ∷ b)

-- "A number is `0` or digits without a leading zero."
unfoldable pub plain : Bytes → Bool
plain [] = false
plain (c ∷ []) = true
plain (c ∷ d ∷ ds) = not (eqb c 48)

-- the value of v followed by further digits
unfoldable pub value_from : ℕ → Bytes → ℕ
value_from v [] = v
value_from v (c ∷ cs) = value_from (v * 10 + (c - 48)) cs

-- the number at the front, with all the digits that stand there, however many
unfoldable pub numeral_of : Bytes → Reading ℕ
numeral_of b = cond (plain (front b)) (got (value_from 0 (front b)) (after b)) broken
