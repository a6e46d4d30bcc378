-- A tick over the table and its report (document 01, 'Monitor tables').
use Rattle.std.specs.Prelude.{ℕ, ℤ, pos}
use Rattle.std.proofs.Math.Option.{Option, none, some}
use Rattle.weighting.proofs.Weightings.{weighting_of}
use Rattle.pattern.specs.declared.Pattern.{Pattern}
use Rattle.pattern.specs.Clocks.{Clocks}
use Rattle.walks.specs.Automaton.{View}
use Rattle.walks.specs.Tables.{Table, opening, table_at}
use Rattle.walks.specs.Reports.{report}
use Rattle.book.specs.Automaton.{same_clocks, held_automaton}
use Rattle.monitor.specs.Cells.{cell_states}

-- "At each time, a start place with length 0, stage 0 and clocks 0 holds the empty run's worth"; after an opening nothing
-- else is held.
abbrev pub open_table : Pattern → Table ℤ Clocks
open_table p = opening (weighting_of p.weighing) (held_automaton p) same_clocks

-- The table some ticks later. Each tick, a cell of length 0 is as after an opening, and any other holds the best, over all
-- moves into it, of the moved worth: of staying a tick, or staying a tick and taking an edge whose guards then hold.
abbrev pub ticks_later : Pattern → View ℤ → Table ℤ Clocks → ℕ → Table ℤ Clocks
ticks_later p 𝓥 U n = table_at (weighting_of p.weighing) (held_automaton p) same_clocks p.high (cell_states p) 𝓥 U n

-- The best worth just entered in an end place with a length in the window, and the least length that has it.
abbrev pub report_of : Pattern → Table ℤ Clocks → Option (ℤ × ℕ)
report_of p U = report (weighting_of p.weighing) (held_automaton p) p.low (cell_states p) U

-- "a score and a length; length 0 with score 0 means no run"
abbrev pub score_in : Option (ℤ × ℕ) → ℤ
score_in none = pos 0
score_in (some r) = r.0

abbrev pub length_in : Option (ℤ × ℕ) → ℕ
length_in none = 0
length_in (some r) = r.1
