-- When the parts of a layout fit together.
use Rattle.std.specs.Prelude.{ℕ, ◌+◌, ◌*◌, ◌^◌, ◌≤◌, ◌<◌, ◌≡◌, length, get_or}
use Rattle.cells.specs.Shape.{Shape}

-- Cells needed.
abbrev pub cells_in : Shape → ℕ
cells_in l = (l.high + 1) * l.row

-- The parts of a layout fit together, and every index is a small number. Each layout of a sound pattern is so.
pub record Laid (l : Shape) : Type 0 where
  pub four : length l.radices ≡ 4
  pub some0 : 0 < get_or l.radices 0 0
  pub some1 : 0 < get_or l.radices 1 0
  pub some2 : 0 < get_or l.radices 2 0
  pub some3 : 0 < get_or l.radices 3 0
  pub block_is : l.block ≡ get_or l.radices 0 0 * get_or l.radices 1 0 * get_or l.radices 2 0 * get_or l.radices 3 0
  pub low : (k : ℕ) → get_or l.radices k 0 ≤ 1002
  pub row_is : l.row ≡ 2 * l.places * l.block
  pub few : l.places ≤ 16
  pub short : l.high ≤ 65535
  pub small : cells_in l < 2 ^ 62
