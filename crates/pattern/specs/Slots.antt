-- Arrays with unused slots, and tests over lists.
use Rattle.std.specs.Prelude.{ℕ, List, Bool, true, ◌&&◌, eqb, leb, length, take, drop}
use Rattle.std.specs.List.{list_all}

-- Each of the list passes the test.
abbrev pub all : {A : Type 0} → (A → Bool) → List A → Bool
all = list_all

abbrev pub anything : {A : Type 0} → A → Bool
anything a = true

-- From `low` to `high`, both included.
abbrev pub within : (low high : ℕ) → ℕ → Bool
within low high n = leb low n && leb n high

-- An array of `size` slots, of which the first `n` are in use and the others are unused.
unfoldable pub slots : {A : Type 0} → (used unused : A → Bool) → (size n : ℕ) → List A → Bool
slots used unused size n xs = eqb (length xs) size && leb n size && all used (take n xs) && all unused (drop n xs)
