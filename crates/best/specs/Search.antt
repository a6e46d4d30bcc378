-- Going through a record, chunk by chunk: what the code keeps after the first n ticks of the record's book, a layer below
-- the definitions of Best.
use Rattle.std.specs.Prelude.{Option as Maybe, Some, None, ℕ, zero, suc, ◌+◌, ◌-◌, ◌≤◌, ◌≡◌, List, ◌++◌, true, length, take, get_or, replicate, ℤ, pos}
use Rattle.std.proofs.Math.Option.{Option, none, some}
use Rattle.pattern.specs.declared.Pattern.{Pattern}
use Rattle.pattern.specs.Sound.{sound_of}
use Rattle.pattern.specs.Clocks.{Clocks}
use Rattle.pattern.specs.Cells.{cells_needed}
use Rattle.pattern.specs.Distance.{Sample}
use Rattle.record.specs.Record.{Book, total, record_sound, book_of}
use Rattle.walks.specs.Tables.{Table}
use Rattle.book.specs.View.{before, view_of}
use Rattle.monitor.specs.declared.State.{State}
use Rattle.monitor.specs.Cells.{written}
use Rattle.monitor.specs.Tick.{open_table, ticks_later}
use Rattle.monitor.specs.Feed.{Call}
use Rattle.best.specs.declared.Choice.{Choice}
use Rattle.best.specs.declared.Search.{Search}
use Rattle.record.specs.declared.Record.{Record}
use Rattle.best.specs.Best.{Chosen, chosen_with, chosen_to}

-- The book of a lent record.
abbrev pub book_in : Pattern → Record → Book
book_in p r = book_of p.channels r.durations.now r.values.now

-- The table after the first n ticks of a book.
abbrev pub table_to : Pattern → Book → ℕ → Table ℤ Clocks
table_to p b n = ticks_later p (view_of p b) (open_table p) n

-- The state after them.
abbrev pub state_to : Pattern → Book → ℕ → State
state_to p b n = record { ticks = n; last = before p b n ++ replicate (8 - p.channels) (pos 0) }

-- The run that a choice stands for.
abbrev pub chosen_in : Maybe Choice → Option Chosen
chosen_in None = none
chosen_in (Some f) = some (record { end = f.end; len = f.length; score = f.score })

-- The choice once the first i reports after n ticks were looked at.
unfoldable pub chosen_past : Pattern → Option Chosen → (n : ℕ) → (scores : List ℤ) → (lengths : List ℕ) → (i : ℕ) → Option Chosen
chosen_past p o n ss ls zero = o
chosen_past p o n ss ls (suc i) = chosen_with p (chosen_past p o n ss ls i) (n + i + 1) (get_or ss i (pos 0)) (get_or ls i 0)

-- A chunk of a piece, of up to 64 ticks, as it is fed: its reports go to slices of zeros.
abbrev pub chunk_of : (ticks : ℕ) → Sample → Call
chunk_of ticks vs = record { duration = ticks; values = vs; scores = replicate 64 (pos 0); lengths = replicate 64 0 }

-- The state and the choice are those after the first n ticks.
abbrev pub SearchedTo : Pattern → Book → ℕ → Search → Type 0
SearchedTo p b n s = (s.state ≡ state_to p b n) × (chosen_in s.choice ≡ chosen_to p b n)

-- Ticks that pass and change neither the last values nor the choice: a piece's, once the table stands still.
abbrev pub passed : Search → (rest : ℕ) → Search
passed s rest = record { state = record { ticks = s.state.ticks + rest; last = s.state.last }; choice = s.choice }

-- A record whose first `piece` pieces were fed, and a first table that holds what is then due.
pub record Fit (p : Pattern) (ds : List ℕ) (vs : List ℤ) (piece : ℕ) (s : Search) (t : List ℤ) : Type 0 where
  pub sound : sound_of p ≡ true
  pub fits : record_sound p.channels ds vs ≡ true
  pub searched : SearchedTo p (book_of p.channels ds vs) (total (take piece ds)) s
  pub first_long : cells_needed p ≤ length t
  pub first : t ≡ written p (table_to p (book_of p.channels ds vs) (total (take piece ds))) t
