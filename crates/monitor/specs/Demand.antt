-- Demand 3 (document 01, 'Monitor tables'): "a single claim about the whole list of feeds after an opening, not one for each
-- call". Proved in proofs/Demand.antt. For every list of feeds after an accepted opening, refused feeds included and pieces
-- cut anywhere, at every tick of every accepted feed, score and length are together those of some run in the window that
-- ends there; none is better, none as good is shorter; and they are 0 and 0 exactly if there is none.
use Rattle.std.specs.Prelude.{ℕ, ◌+◌, ◌≤◌, ◌<◌, ◌≡◌, ◌⊎◌, List, [], ◌∷◌, ◌++◌, T, length, drop, get_or, replicate, ℤ, pos, Ok, Err}
use Rattle.std.proofs.Math.Option.{Option, none, some}
use Rattle.weighting.proofs.Weightings.{weighting_of}
use Rattle.pattern.specs.declared.Pattern.{Pattern}
use Rattle.pattern.specs.declared.Refusal.{Refusal}
use Rattle.pattern.specs.declared.Refusal.TheVariants.{BrokenRecord, TooManyTicks, OutputTooShort}
use Rattle.record.specs.Record.{Book}
use Rattle.book.specs.PricedRun.{PricedRun}
use Rattle.monitor.specs.declared.State.{State}
use Rattle.monitor.specs.Open.{answer_number, unless_refused, first_cause, open_refusal, open_state, open_first, open_second}
use Rattle.monitor.specs.Feed.{Call, piece_broken, too_many_ticks, reports_too_short, feed_answer, feed_state, feed_first, feed_second, feed_scores, feed_lengths}

-- ---- the book, "kept from the calls' arguments alone"

-- "A feed is refused exactly if its piece gives cause for 8, the book's ticks with its duration for 13, or its report slices
-- for 6; no other cause can arise in such a list."
unfoldable pub refusal_by : Pattern → Book → Call → Option Refusal
refusal_by p b c =
    first_cause
    ((piece_broken p c.duration c.values, BrokenRecord)
    ∷ (too_many_ticks (length b) c.duration, TooManyTicks)
    ∷ (reports_too_short (length c.scores) (length c.lengths) c.duration, OutputTooShort)
    ∷ [])

-- "An accepted feed adds its values to the book once for each tick of its duration; a refused one adds nothing."
abbrev pub book_after : Pattern → Book → Call → Book
book_after p b c = unless_refused (refusal_by p b c) (b ++ replicate c.duration c.values) b

-- ---- a report

-- A run in the book with that end, "whose length is at least the window's low and at most its high".
pub record InWindow (p : Pattern) (b : Book) (end len : ℕ) (w : ℤ) : Type 0 where
  pub begin : ℕ
  pub run : PricedRun p b begin end len w
  pub low : p.low ≤ len
  pub high : len ≤ p.high

-- A score and a length are the best of some: one of them has both; none has a better score; none with that score is shorter.
-- `Among len w` says that one of them has the length len and the worth w.
pub record BestAmong (p : Pattern) (Among : (len : ℕ) (w : ℤ) → Type 0) (score : ℤ) (len : ℕ) : Type 0 where
  pub attained : Among len score
  pub none_better : (m : ℕ) (w : ℤ) → Among m w → T ((weighting_of p.weighing).order.at_least score w)
  pub none_shorter : (m : ℕ) → Among m score → len ≤ m

-- Or there are none of them, and both are 0.
pub record NoneAmong (Among : (len : ℕ) (w : ℤ) → Type 0) (score : ℤ) (len : ℕ) : Type 0 where
  pub no_score : score ≡ pos 0
  pub no_length : len ≡ 0
  pub none : (m : ℕ) (w : ℤ) → ¬ Among m w

-- Of the runs in the window that have this end.
abbrev pub BestRun : Pattern → Book → (end : ℕ) (score : ℤ) (len : ℕ) → Type 0
BestRun p b end score len = BestAmong p (InWindow p b end) score len

-- There is no such run.
abbrev pub NoRun : Pattern → Book → (end : ℕ) (score : ℤ) (len : ℕ) → Type 0
NoRun p b end score len = NoneAmong (InWindow p b end) score len

-- ---- the calls

module _ (p : Pattern) where
  -- An accepted call: "Report place i, from 0 and below the duration, of an accepted feed that found n ticks in the book
  -- speaks of end n + i + 1"; later places are as they were.
  pub record Accepted (b : Book) (s : State) (t u : List ℤ) (c : Call) : Type 0 where
    pub answer : feed_answer p s t u c ≡ Ok (tt {0})
    pub reports : (i : ℕ) → i < c.duration
        → BestRun p (book_after p b c) (length b + i + 1) (get_or (feed_scores p s t u c) i (pos 0)) (get_or (feed_lengths p s t u c) i 0)
        ⊎ NoRun p (book_after p b c) (length b + i + 1) (get_or (feed_scores p s t u c) i (pos 0)) (get_or (feed_lengths p s t u c) i 0)
    pub scores_long : length (feed_scores p s t u c) ≡ length c.scores
    pub lengths_long : length (feed_lengths p s t u c) ≡ length c.lengths
    pub later_scores : drop c.duration (feed_scores p s t u c) ≡ drop c.duration c.scores
    pub later_lengths : drop c.duration (feed_lengths p s t u c) ≡ drop c.duration c.lengths

  -- A refused call: "A refused feed writes no report place", and the state and both tables are as they were too.
  pub record Rejected (r : Refusal) (s : State) (t u : List ℤ) (c : Call) : Type 0 where
    pub answer : feed_answer p s t u c ≡ Err r
    pub state : feed_state p s t u c ≡ s
    pub first : feed_first p s t u c ≡ t
    pub second : feed_second p s t u c ≡ u
    pub scores : feed_scores p s t u c ≡ c.scores
    pub lengths : feed_lengths p s t u c ≡ c.lengths

  -- A call that finds this book is accepted or refused as `refusal_by` says.
  abbrev pub Right : Option Refusal → Book → State → (first second : List ℤ) → Call → Type 0
  Right none b s t u c = Accepted b s t u c
  Right (some r) b s t u c = Rejected r s t u c

  -- A list of calls, each going on from what the one before it left.
  abbrev pub AllRight : Book → State → (first second : List ℤ) → List Call → Type 0
  AllRight b s t u [] = Unit
  AllRight b s t u (c ∷ cs) =
      Right (refusal_by p b c) b s t u c
      × AllRight (book_after p b c) (feed_state p s t u c) (feed_first p s t u c) (feed_second p s t u c) cs

-- "After the accepted opening the book is empty."
abbrev pub Demand3 : Type 0
Demand3 =
    (p : Pattern) (s : State) (t u : List ℤ) → open_refusal p (length t) (length u) ≡ none → (calls : List Call)
    → AllRight p [] (open_state p t u s) (open_first p t u) (open_second p t u) calls

-- "no other cause can arise in such a list": an answer's number is 0 (done), 8, 13 or 6.
abbrev pub PossibleNumber : ℕ → Type 0
PossibleNumber n = (n ≡ 0) ⊎ (n ≡ 8) ⊎ (n ≡ 13) ⊎ (n ≡ 6)

-- So it is of every call of a list, each going on from what the one before it left.
abbrev pub AllPossible : Pattern → State → (first second : List ℤ) → List Call → Type 0
AllPossible p s t u [] = Unit
AllPossible p s t u (c ∷ cs) =
    PossibleNumber (answer_number (feed_answer p s t u c))
    × AllPossible p (feed_state p s t u c) (feed_first p s t u c) (feed_second p s t u c) cs

-- After an accepted opening no list of feeds, whatever they bring, ever gives 7, 12, 11 or 14.
abbrev pub OnlyThreeCauses : Type 0
OnlyThreeCauses =
    (p : Pattern) (s : State) (t u : List ℤ) → open_refusal p (length t) (length u) ≡ none → (calls : List Call)
    → AllPossible p (open_state p t u s) (open_first p t u) (open_second p t u) calls
