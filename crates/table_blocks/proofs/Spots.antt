-- The next cell of a block to visit, if there is one.
use Rattle.std.specs.Prelude.{ℕ, ◌+◌, ◌≤◌, ◌<◌, ◌≡◌, true, List, Option, Some, None, ℤ}
use native.Mathlib.Omega.{arith}
use lib.Signed.{lt_z}
use Rattle.weighting.specs.Cell.{mark}
use Rattle.table.specs.declared.Spot.{Spot}
use Rattle.table.specs.Moves.{cell_at}
use Rattle.table.specs.Asks.{Occupied}

-- its number, or the number of cells
abbrev pub cell_of_next : (size : ℕ) → Option Spot → ℕ
cell_of_next size (Some s) = s.cell
cell_of_next size None = size

-- it is in the block, and holds this worth
pub record Holds (t : List ℤ) (a size : ℕ) (s : Spot) : Type 0 where
  pub low : s.cell < size
  pub holds : lt_z mark (cell_at t (a + s.cell)) ≡ true
  pub is : s.worth ≡ cell_at t (a + s.cell)

abbrev pub Found : List ℤ → (a size : ℕ) → Option Spot → Type 0
Found t a size (Some s) = Holds t a size s
Found t a size None = Unit {0}

module _ (t : List ℤ) (a size k : ℕ) where
  pub found_by : (r : Option Spot) → Occupied t a size k r → Found t a size r
  found_by (Some s) h = record { low = h.below; holds = h.holds; is = h.is }
  found_by None h = tt

  pub above_by : (r : Option Spot) → k ≤ size → Occupied t a size k r → k ≤ cell_of_next size r
  above_by (Some s) low h = h.above
  above_by None low h = low

  pub skips_by : (r : Option Spot) → Occupied t a size k r → (j : ℕ) → k ≤ j → j < cell_of_next size r → cell_at t (a + j) ≡ mark
  skips_by (Some s) h j x y = h.skips j x y
  skips_by None h j x y = h j x y

pub next_low : (t : List ℤ) (a size : ℕ) (r : Option Spot) → Found t a size r → cell_of_next size r ≤ size
next_low t a size (Some s) h = let l = h.low in omega arith
next_low t a size None h = omega arith
