-- A table in the terms of the crate walks: its cells are states of the pattern's automaton with held clocks.
use Rattle.std.specs.Prelude.{ℕ, zero, suc, ◌<◌, ◌≤◌, ◌≡◌, Bool, false, cond, ◌&&◌, eqb, ltb, length, get_or, take, ℤ}
use Rattle.std.specs.Prelude as prelude
use Rattle.std.specs.Prelude.{Some, None}
use Rattle.std.proofs.Math.Option.{Option, none, some}
use mathlib.Core.List.{List, [], ◌∷◌, ◌++◌, map, Memᴰ}
use Rattle.weighting.specs.Cell.{held_in}
use Rattle.pattern.specs.declared.Edge.{Edge}
use Rattle.pattern.specs.Clocks.{Clocks, zero_clocks, guards_hold, after_resets}
use Rattle.cells.specs.declared.Layout.{Layout}
use Rattle.cells.specs.Layout.{cells_in}
use Rattle.cells.specs.Index.{ticked, index_of, len_at, stage_at, place_at, cell_clocks}
use Rattle.walks.specs.Automaton.{Automaton, TickView, State}
use Rattle.walks.specs.Tables.{Table}
use Rattle.table.specs.declared.View.{View}
use Rattle.table.specs.declared.report.Report.{Report}
use Rattle.steps.specs.Steps.{edge_in}
use Rattle.table.specs.Moves.{cell_at, gain_at}
use Rattle.table_laws.specs.Offers.{stage_of, gains_of}

-- The state that cell i of a layout is about; `monitor/specs/Cells` has it for a pattern's layout.
abbrev pub state_at : Layout → ℕ → State Clocks
state_at l i =
    record { len = len_at l i; entered = eqb (stage_at l i) 0; place = place_at l i; clocks = cell_clocks l i }

-- The cell of a state.
abbrev pub index_at : Layout → State Clocks → ℕ
index_at l s = index_of l s.len (stage_of s.entered) s.place s.clocks

-- 0 to n - 1.
unfoldable pub up_to : ℕ → List ℕ
up_to zero = []
up_to (suc n) = up_to n ++ (n ∷ [])

-- All states, in the cells' order.
unfoldable pub states_of : Layout → List (State Clocks)
states_of l = map (state_at l) (up_to (cells_in l))

-- What the cells of a table hold.
abbrev pub table_of : Layout → List ℤ → Table ℤ Clocks
table_of l t s = held_in (cell_at t (index_at l s))

-- The view of a tick.
abbrev pub view_of : View → TickView ℤ
view_of v f p = held_in (gain_at (gains_of v f) p)

-- What a report says: a score and a length, or nothing.
abbrev pub result_of : prelude.Option Report → Option (ℤ × ℕ)
result_of (Some r) = some (r.score, r.length)
result_of None = none

-- The automaton that a table is about: its places, its edges in use, and clocks that are held after each tick.
pub record About (A : Automaton Clocks Edge) (l : Layout) (es : List Edge) (count : ℕ) (starts ends : List Bool) : Type 0 where
  pub few : count ≤ length es
  pub four : (i : ℕ) → i < count → length (edge_in es i).resets ≡ 4
  pub starts_are : (p : ℕ) → A.is_start p ≡ ltb p l.places && get_or starts p false
  pub ends_are : (p : ℕ) → A.is_end p ≡ ltb p l.places && get_or ends p false
  pub edges_are : A.edges ≡ take count es
  pub source_is : (e : Edge) → A.source e ≡ e.from
  pub target_is : (e : Edge) → A.target e ≡ e.to
  pub zeros_are : A.zeros ≡ zero_clocks
  pub tick_is : (cs : Clocks) → A.tick cs ≡ ticked l.radices cs
  pub holds_is : (e : Edge) (cs : Clocks) → A.holds e cs ≡ guards_hold cs e
  pub reset_is : (e : Edge) (cs : Clocks) → A.reset e cs ≡ after_resets e cs

-- U and `all` are the table t with this layout: `all` lists its states, in whatever order, and U has what its cells hold.
pub record Seen (l : Layout) (t : List ℤ) (all : List (State Clocks)) (U : Table ℤ Clocks) : Type 0 where
  pub listed : (i : ℕ) → i < cells_in l → Memᴰ (state_at l i) all
  pub only : (s : State Clocks) → Memᴰ s all → (i : ℕ) × (i < cells_in l) × (s ≡ state_at l i)
  pub holds : (i : ℕ) → i < cells_in l → U (state_at l i) ≡ held_in (cell_at t i)

-- g is the view v, in the table's places.
abbrev pub Viewed : Layout → View → TickView ℤ → Type 0
Viewed l v g = (f : Bool) (p : ℕ) → p < l.places → g f p ≡ view_of v f p
