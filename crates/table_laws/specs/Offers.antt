-- What is offered to cell j of a table in one tick, in the table's own terms.
use Rattle.std.specs.Prelude.{ℕ, ◌+◌, ◌<◌, ◌≡◌, Bool, true, false, ◌⊎◌, List, ℤ}
use Rattle.std.proofs.Math.Option.{some}
use Rattle.weighting.specs.declared.Weighing.{Weighing}
use Rattle.weighting.proofs.Weightings.{weighting_of}
use Rattle.weighting.specs.Cell.{held_in}
use Rattle.pattern.specs.declared.Edge.{Edge}
use Rattle.pattern.specs.Clocks.{Clocks, guards_hold, after_resets}
use Rattle.cells.specs.declared.Layout.{Layout}
use Rattle.cells.specs.Index.{code_of, clocks_at, ticked, block_at}
use Rattle.table.specs.declared.View.{View}
use Rattle.steps.specs.Steps.{edge_in}
use Rattle.table.specs.Moves.{cell_at, gain_at, still}

-- Where the clocks of a cell go along the edge after one tick.
abbrev pub goes_to : Layout → Edge → Clocks → ℕ
goes_to l e cs = code_of l.radices (after_resets e (ticked l.radices cs))

-- "then takes an edge out of that place whose guards all hold": after the tick.
abbrev pub may_go : Layout → Edge → Clocks → Bool
may_go l e cs = guards_hold (ticked l.radices cs) e

-- Cell k of the block at `at` offers x to cell j, along e, into the block at `to`: it holds a worth, its place can be
-- stayed in, the edge's guards hold after the tick, it leads to j, and x is the moved worth.
pub record Moves (l : Layout) (w : Weighing) (e : Edge) (g : ℤ) (at to : ℕ) (t : List ℤ) (k j : ℕ) (x : ℤ) : Type 0 where
  pub had : ℤ
  pub holds : held_in (cell_at t (at + k)) ≡ some had
  pub gain : ℤ
  pub gains : held_in g ≡ some gain
  pub goes : may_go l e (clocks_at l.radices k) ≡ true
  pub lands : j ≡ to + goes_to l e (clocks_at l.radices k)
  pub is : x ≡ (weighting_of w).combine had gain

-- One of the first n cells of the block offers it.
pub record Passes (l : Layout) (w : Weighing) (e : Edge) (g : ℤ) (at to n : ℕ) (t : List ℤ) (j : ℕ) (x : ℤ) : Type 0 where
  pub cell : ℕ
  pub low : cell < n
  pub moves : Moves l w e g at to t cell j x

-- The stage of a cell, by whether its place was entered just now.
abbrev pub stage_of : Bool → ℕ
stage_of true = 0
stage_of false = 1

abbrev pub gains_of : View → Bool → List ℤ
gains_of v true = v.entered
gains_of v false = v.staying

-- A cell of length n in the place that e leaves, of either stage, offers it.
pub record Follows (l : Layout) (w : Weighing) (v : View) (e : Edge) (n stage : ℕ) (t : List ℤ) (j : ℕ) (x : ℤ) : Type 0 where
  pub from : Bool
  pub passes : Passes l w e (gain_at (gains_of v from) e.from) (block_at l n (stage_of from) e.from) (block_at l (n + 1) stage e.to) l.block t j x

-- It is offered along one of the first m edges.
pub record Goes (l : Layout) (w : Weighing) (v : View) (f : ℕ → Edge) (n stage m : ℕ) (t : List ℤ) (j : ℕ) (x : ℤ) : Type 0 where
  pub which : ℕ
  pub low : which < m
  pub follows : Follows l w v (f which) n stage t j x

-- Row n offers it: by staying, or along an edge.
abbrev pub RowOffers : Layout → Weighing → View → List Edge → (count n : ℕ) → List ℤ → (j : ℕ) → ℤ → Type 0
RowOffers l w v es count n t j x = Goes l w v still n 1 l.places t j x ⊎ Goes l w v (edge_in es) n 0 count t j x
