-- What feeding makes of any first table, also of one that no monitor wrote (document 01, 'Monitor tables'). Proved in
-- proofs/Lent.antt. Demand 3 and what the tables hold between calls speak of tables that an opening and feeds made. In those the
-- empty run's worth stands at length 0 before every call, and at ticks 0 no run is staying, so that they leave open whether
-- feeding writes that worth before a call's first tick, and what the first tick of all is compared with.
use Rattle.std.specs.Prelude.{ℕ, zero, suc, ◌+◌, ◌<◌, ◌≡◌, ◌⊎◌, List, true, length, drop, get_or, ℤ, pos}
use Rattle.std.proofs.Math.Option.{none, some}
use Rattle.weighting.specs.Order.{IsBest}
use Rattle.weighting.proofs.Weightings.{weighting_of}
use Rattle.weighting.specs.Cell.{mark, held_in}
use Rattle.pattern.specs.declared.Pattern.{Pattern}
use Rattle.pattern.specs.Sound.{sound_of}
use Rattle.pattern.specs.Clocks.{Clocks}
use Rattle.pattern.specs.Cells.{cells_needed}
use Rattle.pattern.specs.Distance.{Sample}
use Rattle.walks.specs.Automaton.{State as RunState, View}
use Rattle.walks.specs.Walks.{Reach}
use Rattle.walks.specs.Reports.{MayEnd}
use Rattle.book.specs.Automaton.{held_automaton}
use Rattle.book.specs.View.{tick_view}
use Rattle.monitor.specs.declared.State.{State}
use Rattle.monitor.specs.Cells.{state_at, held_by}
use Rattle.monitor.specs.State.{last_sample}
use Rattle.monitor.specs.Feed.{Call, feed_refusal, feed_state, feed_first, feed_second, feed_scores, feed_lengths}
use Rattle.monitor.specs.Demand.{BestAmong, NoneAmong}
use Rattle.monitor.specs.Between.{Aside}

-- ---- the lent cells

-- The state of a needed cell holds what the cell says, and no other state holds anything.
pub record SaidByCells (p : Pattern) (t : List ℤ) : Type 0 where
  pub each : (i : ℕ) → i < cells_needed p → held_by p t (state_at p i) ≡ held_in (get_or t i mark)
  pub no_other : (x : RunState Clocks) (w : ℤ) → held_by p t x ≡ some w → (i : ℕ) × (i < cells_needed p) × (state_at p i ≡ x)

-- Theorem: a lent cell is taken as the worth it says, whoever wrote it.
abbrev pub CellsSayWorths : Type 0
CellsSayWorths = (p : Pattern) → sound_of p ≡ true → (t : List ℤ) → SaidByCells p t

-- ---- the ticks of a call

-- The values that a tick of the call is compared with: at the first the state's last values, "at ticks 0 too"; at a later one
-- the piece's own. (Said here apart from feeding's own definition, which is judged by it.)
abbrev pub values_before : Pattern → State → Sample → (tick : ℕ) → Sample
values_before p s vs zero = last_sample p s
values_before p s vs (suc i) = vs

-- A tick is a new observation in a place exactly where the two do not agree there. (What that means to a worth is said by
-- `tick_view`: in sum it counts for a cell that stays.)
abbrev pub call_view : Pattern → State → Sample → View ℤ
call_view p s vs i = tick_view p (values_before p s vs i) vs

-- What is reached n ticks into the call, by its state and worth. By `Reach`, before the first tick it is what the lent cells hold
-- and nothing else; after each tick it is what moved from there, and the empty run in every start place.
abbrev pub Reached : Pattern → State → (first : List ℤ) → Sample → (n : ℕ) → RunState Clocks → ℤ → Type 0
Reached p s t vs n x w =
    Reach (weighting_of p.weighing) (held_automaton p) (call_view p s vs) p.high (held_by p t) n x w

-- Of that, what may end there, by its length and worth: just entered, in an end place, its length in the window.
abbrev pub EndsThere : Pattern → State → (first : List ℤ) → Sample → (n len : ℕ) → ℤ → Type 0
EndsThere p s t vs n len w =
    MayEnd (weighting_of p.weighing) (held_automaton p) (call_view p s vs) p.low p.high (held_by p t) n (w, len)

-- ---- the call

-- What an accepted feed leaves of all that was lent. What the second table held has no part in it but for its further cells.
pub record FedFrom (p : Pattern) (s : State) (t u : List ℤ) (c : Call) : Type 0 where
  -- a needed cell: the best worth that is reached in its state; the mark, which `held_in` reads as none, exactly if nothing is.
  -- (After n of the ticks the cells are what a call of n ticks would leave: this says it of every n.)
  pub cells : (i : ℕ) → i < cells_needed p
      → IsBest (weighting_of p.weighing).order (Reached p s t c.values c.duration (state_at p i)) (held_in (get_or (feed_first p s t u c) i mark))
  -- report place i: the best and shortest of what may end after i + 1 ticks; 0 and 0 exactly if nothing may
  pub reports : (i : ℕ) → i < c.duration
      → BestAmong p (EndsThere p s t c.values (i + 1)) (get_or (feed_scores p s t u c) i (pos 0)) (get_or (feed_lengths p s t u c) i 0)
      ⊎ NoneAmong (EndsThere p s t c.values (i + 1)) (get_or (feed_scores p s t u c) i (pos 0)) (get_or (feed_lengths p s t u c) i 0)
  -- later places of the reports are untouched
  pub later_scores : drop c.duration (feed_scores p s t u c) ≡ drop c.duration c.scores
  pub later_lengths : drop c.duration (feed_lengths p s t u c) ≡ drop c.duration c.lengths
  pub scores_long : length (feed_scores p s t u c) ≡ length c.scores
  pub lengths_long : length (feed_lengths p s t u c) ≡ length c.lengths
  -- the second table's needed cells are marks, further cells of both tables untouched
  pub aside : Aside p t u (feed_first p s t u c) (feed_second p s t u c)
  -- the state: so many ticks more, the piece's values as the last ones, unused channels as they were
  pub ticks : (feed_state p s t u c).ticks ≡ s.ticks + c.duration
  pub last_values : last_sample p (feed_state p s t u c) ≡ c.values
  pub unused : drop p.channels (feed_state p s t u c).last ≡ drop p.channels s.last

-- Theorem: of every pattern, state, two tables and piece, wherever feeding is not refused.
abbrev pub LentTablesFed : Type 0
LentTablesFed =
    (p : Pattern) (s : State) (t u : List ℤ) (c : Call) → feed_refusal p s t u c ≡ none → FedFrom p s t u c
