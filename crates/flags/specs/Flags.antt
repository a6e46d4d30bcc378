-- Which blocks of a table hold a worth, as the loops keep it: a number for each length, and in it a bit for each block of
-- that row.
use Rattle.std.specs.Prelude.{ℕ, zero, suc, ◌+◌, ◌*◌, ◌/◌, ◌%◌, ◌^◌, ◌≤◌, ◌<◌, ◌≡◌, Bool, false, cond, List, length, get_or, set, ℤ, pos}
use Rattle.std.specs.Int.Bits.{bit_or}
use Rattle.weighting.specs.Cell.{mark}
use Rattle.cells.specs.declared.Layout.{Layout}

-- Bit i of a number.
abbrev pub bit_at : ℕ → ℕ → ℕ
bit_at x i = x / 2 ^ i % 2

-- Which block of its row that of a stage and a place is.
abbrev pub flag_at : Layout → (stage place : ℕ) → ℕ
flag_at l stage p = stage * l.places + p

-- Where block i of row n starts.
abbrev pub start_at : Layout → (n i : ℕ) → ℕ
start_at l n i = n * l.row + i * l.block

-- The flags with that of block i of row n raised.
unfoldable pub raised : List ℕ → (n i : ℕ) → List ℕ
raised f n i = set f n (bit_or (get_or f n 0) (2 ^ i))

-- The flags with those of the first places raised in which a run may begin.
unfoldable pub start_flags : List Bool → ℕ → List ℕ → List ℕ
start_flags starts zero f = f
start_flags starts (suc p) f = cond (get_or starts p false) (raised (start_flags starts p f) 0 p) (start_flags starts p f)

-- The number x is right for row n: where a block's bit is not set, all cells of the block are marks.
pub record RowFlagged (l : Layout) (t : List ℤ) (x n : ℕ) : Type 0 where
  pub marks : (i k : ℕ) → i < 2 * l.places → k < l.block → bit_at x i ≡ 0 → get_or t (start_at l n i + k) (pos 0) ≡ mark

-- The flags are right for the table.
pub record Flagged (l : Layout) (t : List ℤ) (f : List ℕ) : Type 0 where
  pub long : l.high < length f
  pub rows : (n : ℕ) → n ≤ l.high → RowFlagged l t (get_or f n 0) n

-- The flag of block i of row n is raised.
abbrev pub IsRaised : List ℕ → (n i : ℕ) → Type 0
IsRaised f n i = bit_at (get_or f n 0) i ≡ 0 → ⊥

-- No flag of f is lowered in g.
pub record Higher (f g : List ℕ) : Type 0 where
  pub long : length g ≡ length f
  pub keeps : (n i : ℕ) → bit_at (get_or g n 0) i ≡ 0 → bit_at (get_or f n 0) i ≡ 0

-- The flags g are right for the table, and no flag of f is lowered in them.
pub record Grown (l : Layout) (t : List ℤ) (f g : List ℕ) : Type 0 where
  pub flagged : Flagged l t g
  pub higher : Higher f g
