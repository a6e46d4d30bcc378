-- The ticks of a piece, by the last values before it and its own.
use Rattle.std.specs.Prelude.{ℕ, suc, List, ◌++◌, map, drop, ℤ}
use Rattle.pattern.specs.declared.Pattern.{Pattern}
use Rattle.pattern.specs.Clocks.{Clocks}
use Rattle.pattern.specs.Distance.{Sample}
use Rattle.walks.specs.Tables.{Table}
use Rattle.monitor.specs.Cells.{up_to, held_by}
use Rattle.monitor.specs.Tick.{ticks_later, report_of, score_in, length_in}
use Rattle.monitor.specs.Feed.{piece_view}

-- the table n ticks into the piece
abbrev pub table_in : Pattern → (last values : Sample) → (first : List ℤ) → ℕ → Table ℤ Clocks
table_in p last vs t n = ticks_later p (piece_view p last vs) (held_by p t) n

-- both report slices once d ticks are reported
abbrev pub scores_in : Pattern → (last values : Sample) → (first : List ℤ) → (d : ℕ) → (scores : List ℤ) → List ℤ
scores_in p last vs t d scores = map (λ i. score_in (report_of p (table_in p last vs t (suc i)))) (up_to d) ++ drop d scores

abbrev pub lengths_in : Pattern → (last values : Sample) → (first : List ℤ) → (d : ℕ) → (lengths : List ℕ) → List ℕ
lengths_in p last vs t d lengths = map (λ i. length_in (report_of p (table_in p last vs t (suc i)))) (up_to d) ++ drop d lengths
