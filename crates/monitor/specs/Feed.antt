-- Feeding a piece (document 01, 'Feed a piece'): what it answers, and what the state, both tables and both report slices
-- are afterwards, for every content of what is lent.
use Rattle.std.specs.Prelude.{ℕ, zero, suc, ◌+◌, ◌≡◌, List, [], ◌∷◌, ◌++◌, map, Bool, not, cond, ◌&&◌, ◌||◌, eqb, leb, ltb, length, take, drop, ℤ, nat_abs, Result}
use Rattle.std.proofs.Math.Option.{Option}
use Rattle.integers.specs.Equal.{eq_z}
use Rattle.weighting.specs.Cell.{mark}
use Rattle.pattern.specs.declared.Pattern.{Pattern}
use Rattle.pattern.specs.declared.Refusal.{Refusal}
use Rattle.pattern.specs.declared.Refusal.TheVariants.{UnsoundPattern, BrokenState, TableTooShort, BrokenRecord, TooManyTicks, BrokenCell, OutputTooShort}
use Rattle.pattern.specs.Slots.{all, within}
use Rattle.pattern.specs.Sound.{sound_of}
use Rattle.pattern.specs.Clocks.{Clocks}
use Rattle.pattern.specs.Cells.{cells_needed}
use Rattle.pattern.specs.Distance.{Sample}
use Rattle.record.specs.Record.{value_in_range}
use Rattle.walks.specs.Automaton.{View}
use Rattle.walks.specs.Tables.{Table}
use Rattle.book.specs.View.{tick_view}
use Rattle.monitor.specs.declared.State.{State}
use Rattle.monitor.specs.Cells.{up_to, held_by, written}
use Rattle.monitor.specs.Tick.{ticks_later, report_of, score_in, length_in}
use Rattle.monitor.specs.State.{last_sample, state_sound, piece_later}
use Rattle.monitor.specs.Open.{answer_of, answer_number, unless_refused, first_cause, table_too_short, marks}

-- A piece and two report slices: what a call brings beside the pattern, the state and the tables.
pub record Call : Type 0 where
  pub duration : ℕ
  pub values : Sample
  pub scores : List ℤ
  pub lengths : List ℕ

-- ---- the causes

-- "8: duration 0 or over 65,535, a wrong count of values, a value out of range"
unfoldable pub piece_broken : Pattern → (duration : ℕ) → Sample → Bool
piece_broken p d vs = not (within 1 65_535 d && eqb (length vs) p.channels && all value_in_range vs)

-- "13: total ticks would pass 2,147,483,647"
abbrev pub too_many_ticks : (ticks duration : ℕ) → Bool
too_many_ticks ticks d = ltb 2_147_483_647 (ticks + d)

-- "14: a needed cell of the first table neither the mark nor within ±32,760,000,000"
unfoldable pub cell_fine : ℤ → Bool
cell_fine z = eq_z z mark || leb (nat_abs z) 32_760_000_000

unfoldable pub cells_broken : Pattern → List ℤ → Bool
cells_broken p t = not (all cell_fine (take (cells_needed p) t))

-- "6: a report slice shorter than the duration"
abbrev pub reports_too_short : (scores lengths duration : ℕ) → Bool
reports_too_short scores lengths d = ltb scores d || ltb lengths d

-- Checks go in the order written: 7, 12, 11, 8, 13, 14, 6. Of the second table and the report slices only the lengths count.
unfoldable pub feed_cause : Pattern → State → (first : List ℤ) → (second duration : ℕ) → Sample → (scores lengths : ℕ) → Option Refusal
feed_cause p s t second d vs scores lengths =
    first_cause
    ((not (sound_of p), UnsoundPattern)
    ∷ (not (state_sound p s), BrokenState)
    ∷ (table_too_short p (length t) second, TableTooShort)
    ∷ (piece_broken p d vs, BrokenRecord)
    ∷ (too_many_ticks s.ticks d, TooManyTicks)
    ∷ (cells_broken p t, BrokenCell)
    ∷ (reports_too_short scores lengths d, OutputTooShort)
    ∷ [])

abbrev pub feed_refusal : Pattern → State → (first second : List ℤ) → Call → Option Refusal
feed_refusal p s t u c =
    feed_cause p s t (length u) c.duration c.values (length c.scores) (length c.lengths)

-- ---- the ticks of the piece

-- The first tick comes after the last values before the piece, and may be a new observation in some places and not in others. The
-- later ones come after the piece's own values, and are none in any place.
unfoldable pub piece_view : Pattern → (last values : Sample) → View ℤ
piece_view p last vs zero = tick_view p last vs
piece_view p last vs (suc t) = tick_view p vs vs

-- The table n ticks into the piece. The last values before it are the state's, at ticks 0 too.
abbrev pub table_after : Pattern → State → (first : List ℤ) → Sample → ℕ → Table ℤ Clocks
table_after p s t vs n = ticks_later p (piece_view p (last_sample p s) vs) (held_by p t) n

-- ---- the call: what it answers, and what the state and both tables are afterwards; at a refusal as they were

abbrev pub feed_answer : Pattern → State → (first second : List ℤ) → Call → Result (Unit {0}) Refusal
feed_answer p s t u c = answer_of tt (feed_refusal p s t u c)

abbrev pub feed_state : Pattern → State → (first second : List ℤ) → Call → State
feed_state p s t u c = unless_refused (feed_refusal p s t u c) (piece_later p s c.duration c.values) s

abbrev pub feed_first : Pattern → State → (first second : List ℤ) → Call → List ℤ
feed_first p s t u c =
    unless_refused (feed_refusal p s t u c) (written p (table_after p s t c.values c.duration) t) t

abbrev pub feed_second : Pattern → State → (first second : List ℤ) → Call → List ℤ
feed_second p s t u c = unless_refused (feed_refusal p s t u c) (marks p u) u

-- "Feeding a piece writes per tick a score and a length ..; later places of both report slices are untouched."
abbrev pub report_after : Pattern → State → (first : List ℤ) → Sample → (tick : ℕ) → Option (ℤ × ℕ)
report_after p s t vs i = report_of p (table_after p s t vs (suc i))

abbrev pub feed_scores : Pattern → State → (first second : List ℤ) → Call → List ℤ
feed_scores p s t u c =
    unless_refused (feed_refusal p s t u c)
    (map (λ i. score_in (report_after p s t c.values i)) (up_to c.duration) ++ drop c.duration c.scores)
    c.scores

abbrev pub feed_lengths : Pattern → State → (first second : List ℤ) → Call → List ℕ
feed_lengths p s t u c =
    unless_refused (feed_refusal p s t u c)
    (map (λ i. length_in (report_after p s t c.values i)) (up_to c.duration) ++ drop c.duration c.lengths)
    c.lengths

-- What is due, in document 01's numbers.
abbrev pub feed_number : Pattern → State → (first second : List ℤ) → Call → ℕ
feed_number p s t u c =
    cond (not (sound_of p)) 7
    (cond (not (state_sound p s)) 12
    (cond (table_too_short p (length t) (length u)) 11
    (cond (piece_broken p c.duration c.values) 8
    (cond (too_many_ticks s.ticks c.duration) 13
    (cond (cells_broken p t) 14
    (cond (reports_too_short (length c.scores) (length c.lengths) c.duration) 6 0))))))

-- Theorem: the two agree.
abbrev pub FeedNumbers : Type 0
FeedNumbers =
    (p : Pattern) (s : State) (t u : List ℤ) (c : Call) → answer_number (feed_answer p s t u c) ≡ feed_number p s t u c
