-- What the report places of an accepted call hold, and what a report says in document 01's words.
use Prim.Native.Nat.{ℕ, ◌≤◌, ◌<◌}
use mathlib.Core.Path.{◌≡◌, refl, ap, ◌∙◌}
use mathlib.Core.Logic.{◌⊎◌, inl, inr}
use mathlib.Core.List.{List, ◌++◌, map}
use mathlib.Core.Option.{Option, none, some}
use lib.ListN.{length, drop, get_or}
use lib.IntN.{ℤ, pos}
use Rattle.weighting.specs.Order.{IsBest}
use Rattle.weighting.specs.Shortest.{shortest}
use Rattle.weighting.proofs.Weightings.{weighting_of}
use Rattle.pattern.specs.declared.Pattern.{Pattern}
use Rattle.pattern.specs.declared.Refusal.{Refusal}
use Rattle.walks.specs.Reports.{Reported}
use Rattle.walks.proofs.ReportsBest.{reported}
use Rattle.monitor.specs.declared.State.{State}
use Rattle.monitor.specs.Cells.{up_to}
use Rattle.monitor.specs.Tick.{score_in, length_in}
use Rattle.monitor.specs.Open.{unless_refused}
use Rattle.monitor.specs.Feed.{Call, feed_refusal, report_after, feed_scores, feed_lengths}
use Rattle.monitor.specs.Demand.{BestAmong, NoneAmong}
use Rattle.monitor.proofs.Numbers.{made-front, made-rest, told-length}

module _ (p : Pattern) (s : State) (t u : List ℤ) (c : Call) (given : feed_refusal p s t u c ≡ none) where
  pub scores_are : feed_scores p s t u c ≡ map (λ i. score_in (report_after p s t c.values i)) (up_to c.duration) ++ drop c.duration c.scores
  scores_are = ap (λ (o : Option Refusal). unless_refused o (map (λ i. score_in (report_after p s t c.values i)) (up_to c.duration) ++ drop c.duration c.scores) c.scores) given

  pub lengths_are : feed_lengths p s t u c ≡ map (λ i. length_in (report_after p s t c.values i)) (up_to c.duration) ++ drop c.duration c.lengths
  lengths_are = ap (λ (o : Option Refusal). unless_refused o (map (λ i. length_in (report_after p s t c.values i)) (up_to c.duration) ++ drop c.duration c.lengths) c.lengths) given

  -- later places
  pub scores-rest : drop c.duration (feed_scores p s t u c) ≡ drop c.duration c.scores
  scores-rest = ap (drop c.duration) scores_are ∙ made-rest (λ i. score_in (report_after p s t c.values i)) c.duration (drop c.duration c.scores)

  pub lengths-rest : drop c.duration (feed_lengths p s t u c) ≡ drop c.duration c.lengths
  lengths-rest = ap (drop c.duration) lengths_are ∙ made-rest (λ i. length_in (report_after p s t c.values i)) c.duration (drop c.duration c.lengths)

  -- as long as before
  pub scores_are_long : c.duration ≤ length c.scores → length (feed_scores p s t u c) ≡ length c.scores
  scores_are_long h = ap length scores_are ∙ told-length (λ i. score_in (report_after p s t c.values i)) c.duration c.scores h

  pub lengths_are_long : c.duration ≤ length c.lengths → length (feed_lengths p s t u c) ≡ length c.lengths
  lengths_are_long h = ap length lengths_are ∙ told-length (λ i. length_in (report_after p s t c.values i)) c.duration c.lengths h

  pub score-told : (i : ℕ) → i < c.duration → get_or (feed_scores p s t u c) i (pos 0) ≡ score_in (report_after p s t c.values i)
  score-told i l =
      ap (λ (q : List ℤ). get_or q i (pos 0)) scores_are
      ∙ made-front (λ i. score_in (report_after p s t c.values i)) c.duration i (pos 0) (drop c.duration c.scores) l

  pub length-told : (i : ℕ) → i < c.duration → get_or (feed_lengths p s t u c) i 0 ≡ length_in (report_after p s t c.values i)
  length-told i l =
      ap (λ (q : List ℕ). get_or q i 0) lengths_are
      ∙ made-front (λ i. length_in (report_after p s t c.values i)) c.duration i 0 (drop c.duration c.lengths) l

module _ (p : Pattern) (Among : (len : ℕ) (w : ℤ) → Type 0) where
  said : (o : Option (ℤ × ℕ)) → Reported (weighting_of p.weighing) (λ (r : ℤ × ℕ). Among r.1 r.0) o
      → BestAmong p Among (score_in o) (length_in o) ⊎ NoneAmong Among (score_in o) (length_in o)
  said none h = inr (record { no_score = refl; no_length = refl; none = λ m w r. h (w, m) r })
  said (some a) h = inl (record { attained = h.0; none_better = λ m w r. h.1 (w, m) r; none_shorter = λ m r. h.2 m r })

  -- the best, the shortest among equals, is what the report says
  pub best_said : (o : Option (ℤ × ℕ)) → IsBest (shortest (weighting_of p.weighing).order) (λ (r : ℤ × ℕ). Among r.1 r.0) o
      → BestAmong p Among (score_in o) (length_in o) ⊎ NoneAmong Among (score_in o) (length_in o)
  best_said o h = said o (reported (weighting_of p.weighing) (λ (r : ℤ × ℕ). Among r.1 r.0) o h)
