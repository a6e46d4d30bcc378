-- The resets of an edge, flag by flag.
use Rattle.std.specs.Prelude.{ℕ, suc, Bool, true, false, ◌||◌, List, [], ◌∷◌, ◌++◌}
use Rattle.pattern_text.specs.Bytes.{Bytes, bytes}
use Rattle.pattern_text.specs.Numeral.{decimal}

-- what stands before a clock that is reset: the first one begins the bracket
abbrev pub before_clock : (begun : Bool) → Bytes
before_clock true = bytes " "
before_clock false = bytes " (reset "

-- a clock and its flag
abbrev pub flag_text : (begun flag : Bool) → ℕ → Bytes
flag_text begun true k = before_clock begun ++ decimal k
flag_text begun false k = []

-- "or no bracket at all"
abbrev pub closing : (begun : Bool) → Bytes
closing true = bytes ")"
closing false = []

-- the flags of the clocks from k, and the bracket's end
unfoldable pub flags_text : (begun : Bool) → ℕ → List Bool → Bytes
flags_text begun k [] = closing begun
flags_text begun k (f ∷ fs) = flag_text begun f k ++ flags_text (begun || f) (suc k) fs
