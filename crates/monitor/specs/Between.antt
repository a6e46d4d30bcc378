-- What the state and the tables hold between calls (document 01, 'Monitor tables'): "A cell holds the best worth of all
-- unfinished runs in that state now, the present stay included, or the mark". Proved in proofs/CellsHold.antt, for every list
-- of feeds after an accepted opening, refused feeds included and pieces cut anywhere, on the book of demand 3.
use Rattle.std.specs.Prelude.{ℕ, ◌-◌, ◌<◌, ◌≡◌, List, [], ◌∷◌, ◌++◌, length, take, drop, get_or, replicate, ℤ, pos}
use Rattle.std.proofs.Math.Option.{none}
use Rattle.weighting.specs.Order.{IsBest}
use Rattle.weighting.proofs.Weightings.{weighting_of}
use Rattle.weighting.specs.Cell.{mark, held_in}
use Rattle.pattern.specs.declared.Pattern.{Pattern}
use Rattle.pattern.specs.Clocks.{Clocks}
use Rattle.pattern.specs.Cells.{cells_needed}
use Rattle.record.specs.Record.{Book}
use Rattle.walks.specs.Automaton.{State as RunState}
use Rattle.walks.specs.Holding.{hold_state}
use Rattle.book.specs.Automaton.{held}
use Rattle.book.specs.View.{before}
use Rattle.book.specs.Unfinished.{Unfinished}
use Rattle.monitor.specs.declared.State.{State}
use Rattle.monitor.specs.Cells.{state_at}
use Rattle.monitor.specs.Open.{open_refusal, open_state, open_first, open_second}
use Rattle.monitor.specs.Feed.{Call, feed_state, feed_first, feed_second}
use Rattle.monitor.specs.Demand.{book_after}

-- An unfinished run over the book, worth w, whose state now, at the book's end, is that of cell i: its length so far, stage
-- and place, and "clocks are held at their ceiling". The run's own clocks have none. A run longer than the window's high is
-- in no cell.
pub record NowIn (p : Pattern) (b : Book) (i : ℕ) (w : ℤ) : Type 0 where
  pub state : RunState Clocks
  pub run : Unfinished p b (length b) state w
  pub cell : hold_state (held p) state ≡ state_at p i

-- Two tables beside their worths, by what was lent and by what they are now: the needed cells of the second are marks, further
-- cells of both are untouched.
pub record Aside (p : Pattern) (lentFirst lentSecond first second : List ℤ) : Type 0 where
  pub marked : take (cells_needed p) second ≡ replicate (cells_needed p) mark
  pub further_first : drop (cells_needed p) first ≡ drop (cells_needed p) lentFirst
  pub further_second : drop (cells_needed p) second ≡ drop (cells_needed p) lentSecond
  pub first_long : length first ≡ length lentFirst
  pub second_long : length second ≡ length lentSecond

-- Two tables, by what was lent at the opening and by what they are now.
pub record TablesHold (p : Pattern) (lentFirst lentSecond : List ℤ) (b : Book) (first second : List ℤ) : Type 0 where
  -- the best worth of all unfinished runs in that state now; the mark, which `held_in` reads as none, exactly if there is none
  pub cells : (i : ℕ) → i < cells_needed p → IsBest (weighting_of p.weighing).order (NowIn p b i) (held_in (get_or first i mark))
  pub aside : Aside p lentFirst lentSecond first second

-- The state: "ticks so far and the last values (zeros before the first piece and in unused channels)". The ticks are the
-- book's, and the last values its last sample; before the first tick `before` is zeros, so there they are zeros throughout.
pub record StateHolds (p : Pattern) (b : Book) (s : State) : Type 0 where
  pub ticks : s.ticks ≡ length b
  pub last : s.last ≡ before p b (length b) ++ replicate (8 - p.channels) (pos 0)

module _ (p : Pattern) (lentFirst lentSecond : List ℤ) where
  -- After a list of calls, each going on from what the one before it left.
  abbrev pub HoldAfter : Book → State → (first second : List ℤ) → List Call → Type 0
  HoldAfter b s t u [] = StateHolds p b s × TablesHold p lentFirst lentSecond b t u
  HoldAfter b s t u (c ∷ cs) =
      HoldAfter (book_after p b c) (feed_state p s t u c) (feed_first p s t u c) (feed_second p s t u c) cs

-- "Between calls the first table holds this and the needed cells of the second are all marks; further cells are untouched."
abbrev pub CellsHold : Type 0
CellsHold =
    (p : Pattern) (s : State) (t u : List ℤ) → open_refusal p (length t) (length u) ≡ none → (calls : List Call)
    → HoldAfter p t u [] (open_state p t u s) (open_first p t u) (open_second p t u) calls
