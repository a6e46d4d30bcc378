-- Where a cell stands, and which clocks it has. "The cell order, slowest first: length so far, stage (0 just entered,
-- 1 staying), place, clock 0, clock 1 and on; clocks are held at their ceiling." Four clocks always: one that the
-- pattern lacks has radix 1.
use Rattle.std.specs.Prelude.{ℕ, ◌+◌, ◌-◌, ◌*◌, ◌/◌, ◌%◌, ◌≤◌, ◌<◌, min, ◌≡◌, length, get_or}
use mathlib.Core.List.{List, [], ◌∷◌, zip_with}
use Rattle.pattern.specs.Clocks.{Clocks, later}
use Rattle.cells.specs.declared.Layout.{Layout}
use Rattle.cells.specs.Layout.{Laid, cells_in}

-- ---- clocks in a block

-- The cell of a block that has these clocks: their number in mixed radix, clock 0 slowest.
unfoldable pub code_of : (radices : List ℕ) → Clocks → ℕ
code_of rs cs =
    ((get_or cs 0 0 * get_or rs 1 0 + get_or cs 1 0) * get_or rs 2 0 + get_or cs 2 0) * get_or rs 3 0 + get_or cs 3 0

-- The clocks of cell k of a block.
unfoldable pub clocks_at : (radices : List ℕ) → ℕ → Clocks
clocks_at rs k =
    k / get_or rs 3 0 / get_or rs 2 0 / get_or rs 1 0
    ∷ k / get_or rs 3 0 / get_or rs 2 0 % get_or rs 1 0
    ∷ k / get_or rs 3 0 % get_or rs 2 0
    ∷ k % get_or rs 3 0
    ∷ []

-- "clocks are held at their ceiling", which is the radix less 1.
unfoldable pub held : (radices : List ℕ) → Clocks → Clocks
held rs cs = zip_with (λ r c. min c (r - 1)) rs cs

-- One tick later, held.
unfoldable pub ticked : (radices : List ℕ) → Clocks → Clocks
ticked rs cs = held rs (later 1 cs)

-- No clock is past its ceiling.
pub record Within (rs : List ℕ) (cs : Clocks) : Type 0 where
  pub in0 : get_or cs 0 0 < get_or rs 0 0
  pub in1 : get_or cs 1 0 < get_or rs 1 0
  pub in2 : get_or cs 2 0 < get_or rs 2 0
  pub in3 : get_or cs 3 0 < get_or rs 3 0

-- ---- blocks and cells

-- Where the block of a length, a stage and a place starts.
unfoldable pub block_at : Layout → (len stage place : ℕ) → ℕ
block_at l n stage p = n * l.row + (stage * l.places + p) * l.block

-- Where a cell stands.
unfoldable pub index_of : Layout → (len stage place : ℕ) → Clocks → ℕ
index_of l n stage p cs = block_at l n stage p + code_of l.radices cs

-- What stands at an index: the other way round.
unfoldable pub len_at : Layout → ℕ → ℕ
len_at l i = i / l.block / l.places / 2

unfoldable pub stage_at : Layout → ℕ → ℕ
stage_at l i = i / l.block / l.places % 2

unfoldable pub place_at : Layout → ℕ → ℕ
place_at l i = i / l.block % l.places

unfoldable pub cell_clocks : Layout → ℕ → Clocks
cell_clocks l i = clocks_at l.radices (i % l.block)

-- There is such a block.
pub record Placed (l : Layout) (n stage p : ℕ) : Type 0 where
  pub laid : Laid l
  pub low : n ≤ l.high
  pub stages : stage ≤ 1
  pub place : p < l.places

-- ---- the index and its inverse

-- What stands at i is the cell of this length, stage, place and clocks, and it is one of the cells needed.
pub record Found (l : Layout) (n stage p : ℕ) (cs : Clocks) (i : ℕ) : Type 0 where
  pub len : len_at l i ≡ n
  pub stage_is : stage_at l i ≡ stage
  pub place : place_at l i ≡ p
  pub clocks : cell_clocks l i ≡ cs
  pub below : i < cells_in l

-- Theorem: what stands at a cell's index is the cell.
abbrev pub IndexFound : Type 0
IndexFound =
    (l : Layout) (n stage p : ℕ) (cs : Clocks) → Placed l n stage p → length cs ≡ 4 → Within l.radices cs
    → Found l n stage p cs (index_of l n stage p cs)

-- What stands at i is a cell, and its index is i.
pub record At (l : Layout) (i : ℕ) : Type 0 where
  pub placed : Placed l (len_at l i) (stage_at l i) (place_at l i)
  pub within : Within l.radices (cell_clocks l i)
  pub index : index_of l (len_at l i) (stage_at l i) (place_at l i) (cell_clocks l i) ≡ i

-- Theorem: each of the cells needed is such.
abbrev pub IndexOfFound : Type 0
IndexOfFound = (l : Layout) (i : ℕ) → Laid l → i < cells_in l → At l i
