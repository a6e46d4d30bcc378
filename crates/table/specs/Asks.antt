-- What the functions ask of a layout, a view, edges and a table.
use Rattle.std.specs.Prelude.{ℕ, ◌+◌, ◌*◌, ◌^◌, ◌≤◌, ◌<◌, ◌≡◌, true, List, Option, Some, None, ◌⊎◌, length, ℤ, nat_abs}
use Rattle.std.specs.Int.Signed.{lt_z}
use Rattle.weighting.specs.Cell.{mark}
use Rattle.pattern.specs.declared.Edge.{Edge}
use Rattle.pattern.specs.Clocks.{Clocks}
use Rattle.cells.specs.declared.Layout.{Layout}
use Rattle.cells.specs.Layout.{cells_in, Laid}
use Rattle.cells.specs.Index.{Within}
use Rattle.table.specs.declared.View.{View}
use Rattle.table.specs.declared.Spot.{Spot}
use Rattle.table.specs.declared.Block.{Block}
use Rattle.steps.specs.Steps.{edge_in, Fit}
use Rattle.table.specs.Moves.{cell_at, gain_at}

-- z is the mark, or at most k in size.
abbrev pub Sized : ℕ → ℤ → Type 0
Sized k z = (z ≡ mark) ⊎ (nat_abs z ≤ k)

-- ---- what is public

-- The layout, the view of a tick and the edges fit together: each gain is the mark or at most 8,000,000 in size (four
-- tests of at most 2,000,000), and each edge leads from a place to a place and asks about the four clocks.
pub record Known (l : Layout) (v : View) (es : List Edge) (count : ℕ) : Type 0 where
  pub laid : Laid l
  pub entered : (p : ℕ) → p < l.places → Sized 8000000 (gain_at v.entered p)
  pub staying : (p : ℕ) → p < l.places → Sized 8000000 (gain_at v.staying p)
  pub edges : count ≤ 32
  pub froms : (i : ℕ) → i < count → (edge_in es i).from < l.places
  pub tos : (i : ℕ) → i < count → (edge_in es i).to < l.places
  pub fits : (i : ℕ) → i < count → Fit (edge_in es i)

-- Each gain of a view is the mark or at most 8,000,000 in size.
pub record Gains (l : Layout) (v : View) : Type 0 where
  pub entered : (p : ℕ) → p < l.places → Sized 8000000 (gain_at v.entered p)
  pub staying : (p : ℕ) → p < l.places → Sized 8000000 (gain_at v.staying p)

-- The table has all cells, and a cell of length n holds the mark or a worth of at most 32,760,000,000 + n × 8,000,000
-- in size. A tick leaves it so.
pub record Whole (t : List ℤ) (l : Layout) : Type 0 where
  pub inside : cells_in l ≤ length t
  pub bounded : (n i : ℕ) → n ≤ l.high → i < l.row → Sized (32760000000 + n * 8000000) (cell_at t (n * l.row + i))

-- What one tick asks of the table, the view and the edges.
pub record Ticking (t : List ℤ) (l : Layout) (v : View) (es : List Edge) (count : ℕ) : Type 0 where
  pub known : Known l v es count
  pub whole : Whole t l

-- What an opening and the empty runs ask.
pub record Filed (t : List ℤ) (l : Layout) : Type 0 where
  pub laid : Laid l
  pub inside : cells_in l ≤ length t

-- ---- the worths of a block

-- r is the first cell from k on of the block at `a`, of m cells, that holds a worth, and this worth.
pub record Held (t : List ℤ) (a m k : ℕ) (r : Spot) : Type 0 where
  pub above : k ≤ r.cell
  pub below : r.cell < m
  pub skips : (j : ℕ) → k ≤ j → j < r.cell → cell_at t (a + j) ≡ mark
  pub holds : lt_z mark (cell_at t (a + r.cell)) ≡ true
  pub is : r.worth ≡ cell_at t (a + r.cell)

-- r is this cell, or none if there are only marks from cell k on.
abbrev pub Occupied : List ℤ → (a m k : ℕ) → Option Spot → Type 0
Occupied t a m k (Some r) = Held t a m k r
Occupied t a m k None = (j : ℕ) → k ≤ j → j < m → cell_at t (a + j) ≡ mark

-- ---- within a tick

-- The n cells from a hold only marks.
abbrev pub Empty : List ℤ → (a n : ℕ) → Type 0
Empty t a n = (k : ℕ) → k < n → cell_at t (a + k) ≡ mark

-- The n cells from a hold marks or worths that can grow.
pub record Bounded (t : List ℤ) (a n : ℕ) : Type 0 where
  pub at : (k : ℕ) → k < n → Sized (2 ^ 60) (cell_at t (a + k))

-- A worth with these clocks can be moved into row n + 1.
pub record Moving (t : List ℤ) (l : Layout) (n : ℕ) (cs : Clocks) : Type 0 where
  pub low : n < l.high
  pub inside : cells_in l ≤ length t
  pub within : Within l.radices cs

-- The worth v of a run in the block can stay there.
pub record Staying (t : List ℤ) (l : Layout) (b : Block) (v : ℤ) : Type 0 where
  pub gain : nat_abs b.gain ≤ 8000000
  pub worth : nat_abs v ≤ 2 ^ 60
  pub low : b.len < l.high
  pub place : b.place < l.places
  pub inside : cells_in l ≤ length t

-- The cells of the block can be moved.
pub record Passing (t : List ℤ) (l : Layout) (b : Block) : Type 0 where
  pub gain : Sized 8000000 b.gain
  pub low : b.len < l.high
  pub place : b.place < l.places
  pub apart : b.start + l.block ≤ (b.len + 1) * l.row
  pub inside : cells_in l ≤ length t
  pub bounded : Bounded t b.start l.block

-- Row n can be moved.
pub record Ready (t : List ℤ) (l : Layout) (n : ℕ) : Type 0 where
  pub inside : cells_in l ≤ length t
  pub low : n < l.high
  pub bounded : Bounded t (n * l.row) l.row

-- The cells of length n in place p can be moved.
pub record Placing (t : List ℤ) (l : Layout) (g h : ℤ) (n p : ℕ) : Type 0 where
  pub entered : Sized 8000000 g
  pub staying : Sized 8000000 h
  pub place : p < l.places
  pub ready : Ready t l n

-- The rows below `high` can be moved.
pub record Rows (t : List ℤ) (l : Layout) : Type 0 where
  pub inside : cells_in l ≤ length t
  pub bounded : Bounded t 0 (l.high * l.row)
