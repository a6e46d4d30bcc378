-- The cells of a pattern's table (document 01, 'Monitor tables'): which state each stands for, and what it holds.
use Rattle.std.specs.Prelude.{ℕ, zero, suc, List, [], ◌∷◌, ◌++◌, map, Bool, cond, ◌&&◌, eqb, ltb, drop, get_or, ℤ}
use Rattle.std.proofs.Math.Option.{none}
use Rattle.weighting.specs.Cell.{mark, cell_of, held_in}
use Rattle.pattern.specs.declared.Pattern.{Pattern}
use Rattle.pattern.specs.Clocks.{Clocks}
use Rattle.pattern.specs.Cells.{cells_needed}
use Rattle.walks.specs.Automaton.{State, same_state}
use Rattle.walks.specs.Tables.{Table}
use Rattle.book.specs.Automaton.{same_clocks}
use Rattle.cells.specs.declared.Layout.{Layout}
use Rattle.cells.specs.Layout.{layout_of}
use Rattle.cells.specs.Index as cell

-- The numbers from i on, n of them; the numbers below n.
unfoldable pub from : ℕ → ℕ → List ℕ
from i zero = []
from i (suc n) = i ∷ from (suc i) n

abbrev pub up_to : ℕ → List ℕ
up_to n = from 0 n

-- The layout of the monitor's table: lengths from 0 to the window's high.
abbrev pub layout : Pattern → Layout
layout p = layout_of p p.high

-- "length so far, stage (0 just entered, 1 staying), place, clock 0, clock 1 and on"
abbrev pub state_at : Pattern → (index : ℕ) → State Clocks
state_at p i =
    record {
      len = cell.len_at (layout p) i;
      entered = eqb (cell.stage_at (layout p) i) 0;
      place = cell.place_at (layout p) i;
      clocks = cell.cell_clocks (layout p) i;
    }

-- the index of the cell that stands for a state
abbrev pub index_of : Pattern → State Clocks → ℕ
index_of p s = cell.index_of (layout p) s.len (cond s.entered 0 1) s.place s.clocks

-- The states that the table has cells for, in the cells' order.
abbrev pub cell_states : Pattern → List (State Clocks)
cell_states p = map (state_at p) (up_to (cells_needed p))

-- whether a state has a cell: it stands for the state at its index
unfoldable pub is_cell : Pattern → State Clocks → Bool
is_cell p s = ltb (index_of p s) (cells_needed p) && same_state same_clocks s (state_at p (index_of p s))

-- What lent cells hold, "as the worths they say, even if no monitor wrote them".
unfoldable pub held_by : Pattern → List ℤ → Table ℤ Clocks
held_by p cs s = cond (is_cell p s) (held_in (get_or cs (index_of p s) mark)) none

-- Lent cells once a table was written into them; "further cells are untouched".
unfoldable pub written : Pattern → Table ℤ Clocks → List ℤ → List ℤ
written p U cs = map (λ i. cell_of (U (state_at p i))) (up_to (cells_needed p)) ++ drop (cells_needed p) cs
