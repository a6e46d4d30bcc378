-- Answers in document 01's numbers, by cases on the causes.
use Prim.Native.Nat.{ℕ}
use mathlib.Core.Path.{◌≡◌, refl}
use mathlib.Core.Logic.{inl, inr}
use mathlib.Core.List.{List, [], ◌∷◌}
use mathlib.Core.Option.{some}
use mathlib.Core.Bool.{Bool, true, false, not, cond}
use lib.IntN.{ℤ}
use lib.ListN.{length}
use Rattle.pattern.specs.declared.Pattern.{Pattern}
use Rattle.pattern.specs.declared.Refusal.{Refusal}
use Rattle.pattern.specs.declared.Refusal.TheVariants.{UnsoundPattern, BrokenState, TableTooShort, BrokenRecord, TooManyTicks, BrokenCell, OutputTooShort}
use Rattle.pattern.specs.Sound.{sound_of}
use Rattle.pattern.specs.Refusal.{number_of}
use Rattle.record.specs.Record.{Book}
use Rattle.monitor.specs.declared.State.{State}
use Rattle.monitor.specs.State.{state_sound}
use Rattle.monitor.specs.Open.{answer_of, answer_number, table_too_short, first_cause, open_refusal, open_number, OpenNumbers}
use Rattle.monitor.specs.Feed.{Call, piece_broken, too_many_ticks, cells_broken, reports_too_short, feed_cause, feed_refusal, feed_number, FeedNumbers}
use Rattle.monitor.specs.Demand.{refusal_by, PossibleNumber}

-- the number of the first cause, 0 without one
abbrev first_number : List (Bool × Refusal) → ℕ
first_number [] = 0
first_number (c ∷ cs) = cond c.0 (number_of c.1) (first_number cs)

first-number : {A : Type 0} (a : A) (cs : List (Bool × Refusal)) → answer_number (answer_of a (first_cause cs)) ≡ first_number cs
first-number a [] = refl
first-number a (c ∷ cs) = by c.0 (first-number a cs)
  where
    by : (x : Bool) → answer_number (answer_of a (first_cause cs)) ≡ first_number cs
        → answer_number (answer_of a (cond x (some c.1) (first_cause cs))) ≡ cond x (number_of c.1) (first_number cs)
    by true h = refl
    by false h = h

-- of an opening, whatever it hands back
pub opened_numbers : {A : Type 0} (a : A) (p : Pattern) (t u : List ℤ) → answer_number (answer_of a (open_refusal p (length t) (length u))) ≡ open_number p t u
unfolding open_refusal
opened_numbers a p t u = first-number a ((not (sound_of p), UnsoundPattern) ∷ (table_too_short p (length t) (length u), TableTooShort) ∷ [])

pub open_numbers : OpenNumbers
open_numbers p t u = opened_numbers (tt {0}) p t u

-- of a feed, whatever it hands back
pub fed_numbers : {A : Type 0} (a : A) (p : Pattern) (s : State) (t u : List ℤ) (c : Call) → answer_number (answer_of a (feed_refusal p s t u c)) ≡ feed_number p s t u c
unfolding feed_cause
fed_numbers a p s t u c =
    first-number a
    ((not (sound_of p), UnsoundPattern)
    ∷ (not (state_sound p s), BrokenState)
    ∷ (table_too_short p (length t) (length u), TableTooShort)
    ∷ (piece_broken p c.duration c.values, BrokenRecord)
    ∷ (too_many_ticks s.ticks c.duration, TooManyTicks)
    ∷ (cells_broken p t, BrokenCell)
    ∷ (reports_too_short (length c.scores) (length c.lengths) c.duration, OutputTooShort)
    ∷ [])

pub feed-numbers : FeedNumbers
feed-numbers p s t u c = fed_numbers (tt {0}) p s t u c

-- a call that is refused as the book says
pub possible_number : (p : Pattern) (b : Book) (c : Call) → PossibleNumber (answer_number (answer_of (tt {0}) (refusal_by p b c)))
unfolding refusal_by
possible_number p b c = by (piece_broken p c.duration c.values) (too_many_ticks (length b) c.duration) (reports_too_short (length c.scores) (length c.lengths) c.duration)
  where
    by : (x y z : Bool) → PossibleNumber (answer_number (answer_of (tt {0}) (first_cause ((x, BrokenRecord) ∷ (y, TooManyTicks) ∷ (z, OutputTooShort) ∷ []))))
    by true y z = inr (inl refl)
    by false true z = inr (inr (inl refl))
    by false false true = inr (inr (inr refl))
    by false false false = inl refl
