-- Bytes, and reading from the front of them.
use Rattle.std.specs.Prelude.{ℕ, ◌≡◌, List, [], ◌∷◌, Bool, true, not, eqb}
use Prim.Native.Char.{code}
pub use Prim.Native.String.{String}
use Prim.Native.String.{[] as nil, ◌∷◌ as ◌then◌}
use Rattle.pattern.specs.Slots.{all}

abbrev pub Bytes : Type 0
Bytes = List ℕ

-- the bytes of a quoted text
abbrev pub bytes : String → Bytes
bytes nil = []
bytes (c then s) = code c ∷ bytes s

-- bytes without a line feed
abbrev pub no_feed : ℕ → Bool
no_feed c = not (eqb c 10)

abbrev pub Flat : Bytes → Type 0
Flat b = all no_feed b ≡ true

-- What reading from the front of some bytes gives: a value and the bytes after it, or nothing.
pub data Reading (A : Type 0) : Type 0 where
  got : A → Bytes → Reading A
  broken : Reading A
