-- What is claimed, and proved in proofs/.
use Rattle.std.specs.Prelude.{ℕ, ◌≤◌, ◌<◌, ◌≡◌, Bool, List, length, ℤ}
use Rattle.weighting.specs.declared.Weighing.{Weighing}
use Rattle.weighting.proofs.Weightings.{weighting_of}
use Rattle.weighting.specs.Cell.{held_in}
use Rattle.pattern.specs.declared.Edge.{Edge}
use Rattle.pattern.specs.Clocks.{Clocks}
use Rattle.cells.specs.declared.Layout.{Layout}
use Rattle.cells.specs.Layout.{Laid, cells_in}
use Rattle.walks.specs.Automaton.{Automaton, TickView, State, Same}
use Rattle.walks.specs.Tables.{Table, opening, next}
use Rattle.walks.specs.Reports.{report}
use Rattle.table.specs.declared.View.{View}
use Rattle.table.specs.Moves.{cell_at, tick_of, open_of}
use Rattle.table.specs.Reports.{told_of}
use Rattle.table.specs.Asks.{Whole, Ticking, Filed}
use Rattle.table_laws.specs.Meaning.{state_at, states_of, table_of, result_of, About, Seen, Viewed}

module _ (l : Layout) (w : Weighing) (v : View) (es : List Edge) (count : ℕ) (starts ends : List Bool) where
  -- 1. After a tick each cell holds what document 01 says of its state: the empty run's worth at length 0, else the best
  -- over all moves into it of the moved worth.
  abbrev pub TickIsNext : Type 0
  TickIsNext =
      (A : Automaton Clocks Edge) → About A l es count starts ends → (Q : Same Clocks) (t : List ℤ) → Ticking t l v es count
      → (all : List (State Clocks)) (U : Table ℤ Clocks) → Seen l t all U → (g : TickView ℤ) → Viewed l v g
      → (i : ℕ) → i < cells_in l
      → held_in (cell_at (tick_of l w v es count starts t) i) ≡ next (weighting_of w) A Q l.high all g U (state_at l i)

  -- So that the table one tick later is again seen as the walks' table, tick after tick.
  abbrev pub TickIsSeen : Type 0
  TickIsSeen =
      (A : Automaton Clocks Edge) → About A l es count starts ends → (Q : Same Clocks) (t : List ℤ) → Ticking t l v es count
      → (all : List (State Clocks)) (U : Table ℤ Clocks) → Seen l t all U → (g : TickView ℤ) → Viewed l v g
      → Seen l (tick_of l w v es count starts t) all (next (weighting_of w) A Q l.high all g U)

  -- 2. A tick leaves a table whose cells are again the mark or within their row's limit, so that many ticks can follow.
  abbrev pub TickKeepsWhole : Type 0
  TickKeepsWhole = (t : List ℤ) → Ticking t l v es count → Whole (tick_of l w v es count starts t) l

  -- 3. "further cells are untouched".
  abbrev pub TickLeavesFurther : Type 0
  TickLeavesFurther =
      (t : List ℤ) → Ticking t l v es count
      → (length (tick_of l w v es count starts t) ≡ length t)
      × ((i : ℕ) → cells_in l ≤ i → cell_at (tick_of l w v es count starts t) i ≡ cell_at t i)

  -- 4. The report of a tick is that of the table one tick later: the best worth in it at which a run may end, and the least
  -- length that has it.
  abbrev pub ToldIsReport : Type 0
  ToldIsReport =
      (A : Automaton Clocks Edge) → About A l es count starts ends → (Q : Same Clocks) (low : ℕ) → 1 ≤ low
      → (t : List ℤ) → Ticking t l v es count
      → (all : List (State Clocks)) (U : Table ℤ Clocks) → Seen l t all U → (g : TickView ℤ) → Viewed l v g
      → result_of (told_of l w v es count ends low t)
      ≡ report (weighting_of w) A low all (next (weighting_of w) A Q l.high all g U)

-- 5. The opened table holds the empty runs and nothing else; further cells are untouched.
abbrev pub OpenIsOpening : Layout → Weighing → (starts : List Bool) → Type 0
OpenIsOpening l w starts =
    (es : List Edge) (count : ℕ) (ends : List Bool) (A : Automaton Clocks Edge) → About A l es count starts ends
    → (Q : Same Clocks) (t : List ℤ) → Filed t l → (i : ℕ) → i < cells_in l
    → held_in (cell_at (open_of l w starts t) i) ≡ opening (weighting_of w) A Q (state_at l i)

abbrev pub OpenIsSeen : Layout → Weighing → (starts : List Bool) → Type 0
OpenIsSeen l w starts =
    (es : List Edge) (count : ℕ) (ends : List Bool) (A : Automaton Clocks Edge) → About A l es count starts ends
    → (Q : Same Clocks) (t : List ℤ) → Filed t l → (all : List (State Clocks)) (U : Table ℤ Clocks) → Seen l t all U
    → Seen l (open_of l w starts t) all (opening (weighting_of w) A Q)

abbrev pub OpenIsWhole : Layout → Weighing → (starts : List Bool) → Type 0
OpenIsWhole l w starts = (t : List ℤ) → Filed t l → Whole (open_of l w starts t) l

abbrev pub OpenLeavesFurther : Layout → Weighing → (starts : List Bool) → Type 0
OpenLeavesFurther l w starts =
    (t : List ℤ) → Filed t l
    → (length (open_of l w starts t) ≡ length t)
    × ((i : ℕ) → cells_in l ≤ i → cell_at (open_of l w starts t) i ≡ cell_at t i)

-- The states in the cells' order, and what the cells hold, are such.
abbrev pub TableIsSeen : Layout → Type 0
TableIsSeen l = Laid l → (t : List ℤ) → Seen l t (states_of l) (table_of l t)
