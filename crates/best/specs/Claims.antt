-- What is proved of the best of a record: the choice is the best over the ends of demand 3 on the record's book, or none; the
-- answer is that run's end, begin and score; and the tables are left as feeding the whole record leaves them. The proofs are in
-- proofs/.
use Rattle.std.specs.Prelude.{ℕ, zero, suc, ◌-◌, ◌≤◌, ◌≡◌, List, [], ◌∷◌, ◌++◌, map, true, cond, T, ltb, length, replicate, ℤ, pos, Option as Maybe, Some, None, Result, Ok, Err}
use Rattle.std.proofs.Math.Option.{Option, none, some}
use Rattle.weighting.proofs.Weightings.{weighting_of}
use Rattle.pattern.specs.declared.Pattern.{Pattern}
use Rattle.pattern.specs.Sound.{sound_of}
use Rattle.pattern.specs.Distance.{Sample}
use Rattle.record.specs.Record.{Piece, Book, pieces_of, book_of}
use Rattle.book.specs.PricedRun.{PricedRun}
use Rattle.monitor.specs.declared.State.{State}
use Rattle.monitor.specs.Open.{open_state, open_first, open_second}
use Rattle.monitor.specs.Feed.{Call, feed_state, feed_first, feed_second}
use Rattle.monitor.specs.Demand.{InWindow}
use Rattle.pattern.specs.declared.Refusal.{Refusal}
use Rattle.best.specs.declared.Run.{Run}
use Rattle.best.specs.Best.{Chosen, chosen_of, best_refusal, best_of, found_as, best_numbers, best_first, best_second}

-- Among the ends up to n: some run has this end, length and score; no run is better; none as good ends earlier, and none as
-- good with the same end is shorter.
pub record BestTo (p : Pattern) (b : Book) (n : ℕ) (f : Chosen) : Type 0 where
  pub inside : f.end ≤ n
  pub attained : InWindow p b f.end f.len f.score
  pub none_better : (end m : ℕ) (w : ℤ) → end ≤ n → InWindow p b end m w → T ((weighting_of p.weighing).order.at_least f.score w)
  pub none_earlier : (end m : ℕ) → end ≤ n → InWindow p b end m f.score → f.end ≤ end
  pub none_shorter : (m : ℕ) → InWindow p b f.end m f.score → f.len ≤ m

-- or there is no run
abbrev pub NoneTo : Pattern → Book → ℕ → Type 0
NoneTo p b n = (end m : ℕ) (w : ℤ) → end ≤ n → ¬ InWindow p b end m w

abbrev pub Told : Pattern → Book → ℕ → Option Chosen → Type 0
Told p b n none = NoneTo p b n
Told p b n (some f) = BestTo p b n f

abbrev pub BestOfRecord : Type 0
BestOfRecord = (p : Pattern) → sound_of p ≡ true → (b : Book) → Told p b (length b) (chosen_of p b)

-- ---- the answer

-- A run in the record's book from begin to end, worth w, "whose length is at least the window's low and at most its high".
-- "A run's length is its end minus its begin."
pub record RunFrom (p : Pattern) (b : Book) (begin end : ℕ) (w : ℤ) : Type 0 where
  pub run : PricedRun p b begin end (end - begin) w
  pub low : p.low ≤ end - begin
  pub high : end - begin ≤ p.high

-- "the best end, begin and score .. among equals the earliest end, then the shortest": there is this run, and it ends in the
-- record; no run is better; none as good ends earlier; none as good with the same end is shorter.
pub record BestRunIs (p : Pattern) (b : Book) (end begin : ℕ) (score : ℤ) : Type 0 where
  pub attained : RunFrom p b begin end score
  pub inside : end ≤ length b
  pub none_better : (a e : ℕ) (w : ℤ) → RunFrom p b a e w → T ((weighting_of p.weighing).order.at_least score w)
  pub none_earlier : (a e : ℕ) → RunFrom p b a e score → end ≤ e
  pub none_shorter : (a : ℕ) → RunFrom p b a end score → end - begin ≤ end - a

-- "or none": no run in the window, whatever its begin and end. As a run that is answered is one, none is answered exactly
-- then.
abbrev pub AnswerSays : Pattern → Book → Result (Maybe Run) Refusal → Type 0
AnswerSays p b (Ok (Some r)) = BestRunIs p b r.end r.begin r.score
AnswerSays p b (Ok None) = (begin end : ℕ) (w : ℤ) → ¬ RunFrom p b begin end w
AnswerSays p b (Err r) = ⊥

-- What `best` answers, unless it is refused.
abbrev pub BestAnswers : Type 0
BestAnswers =
    (p : Pattern) (ds : List ℕ) (vs : List ℤ) (t u : List ℤ) → best_refusal p ds vs (length t) (length u) ≡ none
    → AnswerSays p (book_of p.channels ds vs) (best_of p ds vs t u)

-- "A record without pieces gives none."
abbrev pub NothingInNothing : Type 0
NothingInNothing = (p : Pattern) (vs t u : List ℤ) → best_refusal p [] vs (length t) (length u) ≡ none → best_of p [] vs t u ≡ Ok None

-- What `best` answers is what is due, in document 01's numbers.
abbrev pub BestNumbers : Type 0
BestNumbers =
    (p : Pattern) (ds : List ℕ) (vs : List ℤ) (t u : List ℤ) → found_as (best_of p ds vs t u) ≡ best_numbers p ds vs t u

-- ---- the tables

-- "pieces over 65,535 ticks cut": a duration as pieces of at most 65,535 ticks.
unfoldable pub cut_in : (most d : ℕ) → List ℕ
cut_in zero d = []
cut_in (suc most) d = cond (ltb 65_535 d) (65_535 ∷ cut_in most (d - 65_535)) (d ∷ [])

-- A piece as it is fed: in such pieces, each with report slices of its length. There are no more of them than ticks.
abbrev pub call_for : Sample → (duration : ℕ) → Call
call_for x d = record { duration = d; values = x; scores = replicate d (pos 0); lengths = replicate d 0 }

abbrev pub calls_for : Piece → List Call
calls_for x = map (call_for x.sample) (cut_in x.duration x.duration)

-- "feeding the whole record"
unfoldable pub whole_record : List Piece → List Call
whole_record [] = []
whole_record (x ∷ xs) = calls_for x ++ whole_record xs

-- What a list of calls leaves, each going on from what the one before it left.
module _ (p : Pattern) where
  abbrev pub first_after : State → (first second : List ℤ) → List Call → List ℤ
  first_after s t u [] = t
  first_after s t u (c ∷ cs) = first_after (feed_state p s t u c) (feed_first p s t u c) (feed_second p s t u c) cs

  abbrev pub second_after : State → (first second : List ℤ) → List Call → List ℤ
  second_after s t u [] = u
  second_after s t u (c ∷ cs) = second_after (feed_state p s t u c) (feed_first p s t u c) (feed_second p s t u c) cs

-- "The tables are left as opening and then feeding the whole record leaves them, pieces over 65,535 ticks cut."
abbrev pub TablesLeft : Type 0
TablesLeft =
    (p : Pattern) (ds : List ℕ) (vs : List ℤ) (t u : List ℤ) → best_refusal p ds vs (length t) (length u) ≡ none → (s : State)
    → (best_first p ds vs t u ≡ first_after p (open_state p t u s) (open_first p t u) (open_second p t u) (whole_record (pieces_of p.channels ds vs)))
    × (best_second p ds vs t u ≡ second_after p (open_state p t u s) (open_first p t u) (open_second p t u) (whole_record (pieces_of p.channels ds vs)))
