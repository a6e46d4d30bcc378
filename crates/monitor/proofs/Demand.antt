-- Demand 3: each call is right, from the opening on.
use Prim.Native.Nat.{ℕ, suc, ◌+◌, ◌-◌, ◌≤◌, ◌<◌}
use native.Mathlib.Omega.{arith}
use mathlib.Core.Path.{◌≡◌, refl, sym, ap, subst, ◌∙◌}
use mathlib.Core.Logic.{◌⊎◌}
use mathlib.Core.List.{List, [], ◌∷◌, ◌++◌}
use mathlib.Core.Option.{Option, none, some}
use mathlib.Core.Bool.{true}
use lib.ListN.{length, get_or, replicate, replicate-append-replicate}
use lib.IntN.{ℤ, pos}
use Rattle.weighting.proofs.Weightings.{weighting_of}
use Rattle.weighting.specs.Shortest.{shortest}
use Rattle.weighting.proofs.Best.{IsBest_iff}
use Rattle.pattern.specs.declared.Pattern.{Pattern}
use Rattle.pattern.specs.declared.Refusal.{Refusal}
use Rattle.pattern.specs.Sound.{sound_of}
use Rattle.pattern.specs.Cells.{cells_needed}
use Rattle.pattern.proofs.SoundLaws.{parts}
use Rattle.record.specs.Record.{Book}
use Rattle.walks.specs.Reports.{Wanted}
use Rattle.walks.proofs.Rows.{reports-only-cells}
use Rattle.walks.proofs.ReportsBest.{reports_best}
use Rattle.book.specs.Automaton.{automaton_of, held, same_clocks, held_automaton}
use Rattle.book.specs.View.{sample_at, before, view_of}
use Rattle.book.proofs.Ceilings.{ceilings_hold}
use Rattle.book.proofs.StayGains.{gains_are_worths}
use Rattle.book.proofs.Runs.{priced_are_runs}
use Rattle.monitor.specs.declared.State.{State}
use Rattle.monitor.specs.Cells.{cell_states, written}
use Rattle.monitor.specs.Tick.{open_table, ticks_later, report_of, score_in, length_in}
use Rattle.monitor.specs.State.{no_ticks}
use Rattle.monitor.specs.Open.{answer_of, answer_number, unless_refused, marks, open_refusal, open_state, open_first, open_second}
use Rattle.monitor.specs.Feed.{Call, feed_refusal, report_after, feed_state, feed_first, feed_second, feed_scores, feed_lengths}
use Rattle.monitor.specs.Demand.{refusal_by, book_after, InWindow, BestRun, NoRun, Accepted, Rejected, Right, AllRight, Demand3, PossibleNumber, AllPossible, OnlyThreeCauses}
use Rattle.monitor.proofs.Accepted.{opened as parts-of}
use Rattle.monitor.proofs.Answers.{possible_number}
use Rattle.monitor.proofs.Reports.{scores-rest, lengths-rest, scores_are_long, lengths_are_long, score-told, length-told, best_said}
use Rattle.monitor.proofs.CellLaws.{closed, of_cells}
use Rattle.monitor.proofs.Written.{held-written, written-length, marks-length}
use Rattle.monitor.proofs.Between.{Fine, Between, next, refusal_is, ticks-in, go_on_lem, next-length, piece, cell_no_mark}

-- ---- a report, in document 01's words

module _ (p : Pattern) (sound : sound_of p ≡ true) (b : Book) (end : ℕ) (low : end ≤ length b) where
  to-wanted : (r : ℤ × ℕ) → InWindow p b end r.1 r.0 → Wanted (weighting_of p.weighing) (automaton_of p) (view_of p b) p.low p.high end r
  to-wanted r k = (k.low, k.high, (k.begin, (priced_are_runs p sound b k.begin end r.1 r.0 low).0 k.run))

  of_wanted : (r : ℤ × ℕ) → Wanted (weighting_of p.weighing) (automaton_of p) (view_of p b) p.low p.high end r → InWindow p b end r.1 r.0
  of_wanted r k = record { begin = k.2.0; run = (priced_are_runs p sound b k.2.0 end r.1 r.0 low).1 k.2.1; low = k.0; high = k.1 }

  pub report-right : BestRun p b end (score_in (report_of p (ticks_later p (view_of p b) (open_table p) end))) (length_in (report_of p (ticks_later p (view_of p b) (open_table p) end)))
      ⊎ NoRun p b end (score_in (report_of p (ticks_later p (view_of p b) (open_table p) end))) (length_in (report_of p (ticks_later p (view_of p b) (open_table p) end)))
  report-right =
      best_said p (InWindow p b end) (report_of p (ticks_later p (view_of p b) (open_table p) end))
      (IsBest_iff (shortest (weighting_of p.weighing).order) of_wanted to-wanted (report_of p (ticks_later p (view_of p b) (open_table p) end))
      (reports_best (weighting_of p.weighing) (automaton_of p) same_clocks (view_of p b) p.high (gains_are_worths p b) (held p) (ceilings_hold p sound) (cell_states p) (closed p sound) p.low (parts p sound).some_low end))

-- ---- a call

module _ (p : Pattern) (b : Book) (s : State) (t u : List ℤ) (h : Between p b s t u) (c : Call) where
  same_said : (end : ℕ) (B B' : Book) (x x' : ℤ) (n n' : ℕ) → B ≡ B' → x ≡ x' → n ≡ n'
      → BestRun p B' end x' n' ⊎ NoRun p B' end x' n' → BestRun p B end x n ⊎ NoRun p B end x n
  same_said end B B' x x' n n' e f g k = rw (e, f, g) k

  module _ (none_given : refusal_by p b c ≡ none) where
    pub feed_given : feed_refusal p s t u c ≡ none
    feed_given = refusal_is p b s t u h c ∙ none_given

    book-is : book_after p b c ≡ next p b s t u h c none_given
    book-is = ap (λ (o : Option Refusal). unless_refused o (b ++ replicate c.duration c.values) b) none_given

    -- the report of a tick is the book's
    report-is : (i : ℕ) → i < c.duration
        → report_after p s t c.values i ≡ report_of p (ticks_later p (view_of p (next p b s t u h c none_given)) (open_table p) (length b + i + 1))
    report-is i l =
        let e : length b + suc i ≡ length b + i + 1 = omega arith in
        reports-only-cells (weighting_of p.weighing) (held_automaton p) same_clocks p.high (cell_states p) p.low _ _ (ticks-in p b s t u h c none_given (suc i) (omega arith))
        ∙ ap (λ (n : ℕ). report_of p (ticks_later p (view_of p (next p b s t u h c none_given)) (open_table p) n)) e

    pub score-at : (i : ℕ) → i < c.duration → get_or (feed_scores p s t u c) i (pos 0) ≡ score_in (report_of p (ticks_later p (view_of p (next p b s t u h c none_given)) (open_table p) (length b + i + 1)))
    score-at i l = score-told p s t u c feed_given i l ∙ ap score_in (report-is i l)

    pub length-at : (i : ℕ) → i < c.duration → get_or (feed_lengths p s t u c) i 0 ≡ length_in (report_of p (ticks_later p (view_of p (next p b s t u h c none_given)) (open_table p) (length b + i + 1)))
    length-at i l = length-told p s t u c feed_given i l ∙ ap length_in (report-is i l)

    accepted : Accepted p b s t u c
    accepted =
        record {
          answer = ap (answer_of (tt {0})) feed_given;
          reports = λ i l. same_said (length b + i + 1) _ _ _ _ _ _ book-is (score-at i l) (length-at i l)
              (report-right p h.sound (next p b s t u h c none_given) (length b + i + 1) (let e = next-length p b s t u h c none_given in omega arith));
          scores_long = scores_are_long p s t u c feed_given (piece p b s t u h c none_given).scores;
          lengths_long = lengths_are_long p s t u c feed_given (piece p b s t u h c none_given).lengths;
          later_scores = scores-rest p s t u c feed_given;
          later_lengths = lengths-rest p s t u c feed_given;
        }

    after-accepted : Between p (book_after p b c) (feed_state p s t u c) (feed_first p s t u c) (feed_second p s t u c)
    after-accepted = rw (feed_given, none_given) (go_on_lem p b s t u h c none_given)

  module _ (r : Refusal) (given : refusal_by p b c ≡ some r) where
    feed_refused : feed_refusal p s t u c ≡ some r
    feed_refused = refusal_is p b s t u h c ∙ given

    rejected : Rejected p r s t u c
    rejected = record { answer = rw feed_refused; state = rw feed_refused; first = rw feed_refused; second = rw feed_refused; scores = rw feed_refused; lengths = rw feed_refused }

    after_rejected : Between p (book_after p b c) (feed_state p s t u c) (feed_first p s t u c) (feed_second p s t u c)
    after_rejected = rw (feed_refused, given) h

  right : Right p (refusal_by p b c) b s t u c
  right = by (refusal_by p b c) refl
    where
      by : (o : Option Refusal) → refusal_by p b c ≡ o → Right p o b s t u c
      by none e = accepted e
      by (some r) e = rejected r e

  pub after : Between p (book_after p b c) (feed_state p s t u c) (feed_first p s t u c) (feed_second p s t u c)
  after = by (refusal_by p b c) refl
    where
      by : (o : Option Refusal) → refusal_by p b c ≡ o → Between p (book_after p b c) (feed_state p s t u c) (feed_first p s t u c) (feed_second p s t u c)
      by none e = after-accepted e
      by (some r) e = after_rejected r e

-- ---- the list

all_right : (p : Pattern) (calls : List Call) (b : Book) (s : State) (t u : List ℤ) → Between p b s t u → AllRight p b s t u calls
all_right p [] b s t u h = tt
all_right p (c ∷ cs) b s t u h =
    (right p b s t u h c, all_right p cs (book_after p b c) (feed_state p s t u c) (feed_first p s t u c) (feed_second p s t u c) (after p b s t u h c))

all_possible : (p : Pattern) (calls : List Call) (b : Book) (s : State) (t u : List ℤ) → Between p b s t u → AllPossible p s t u calls
all_possible p [] b s t u h = tt
all_possible p (c ∷ cs) b s t u h = (
  subst (λ (o : Option Refusal). PossibleNumber (answer_number (answer_of (tt {0}) o))) (sym (refusal_is p b s t u h c)) (possible_number p b c),
  all_possible p cs (book_after p b c) (feed_state p s t u c) (feed_first p s t u c) (feed_second p s t u c) (after p b s t u h c),
)

-- ---- the opening

pub open_parts : (p : Pattern) (first second : ℕ) → open_refusal p first second ≡ none → (sound_of p ≡ true) × (cells_needed p ≤ first) × (cells_needed p ≤ second)
open_parts p first second e = let o = parts-of p first second e in (o.sound, o.tables.first, o.tables.second)

pub fresh : (p : Pattern) (t u : List ℤ) → (sound_of p ≡ true) × (cells_needed p ≤ length t) × (cells_needed p ≤ length u) → Between p [] no_ticks (written p (open_table p) t) (marks p u)
unfolding before
fresh p t u k =
    let none-there : (i : ℕ) → i < 0 → Fine p (sample_at [] i) = λ i l. absurd (omega arith) in
    let few = (parts p k.0).few_channels in
    let eight : p.channels + (8 - p.channels) ≡ 8 = omega arith in
    record {
      sound = k.0;
      ticks = refl;
      few = omega arith;
      fine = none-there;
      last = sym (replicate-append-replicate p.channels (8 - p.channels) (pos 0) ∙ ap (λ (n : ℕ). replicate n (pos 0)) eight);
      first_long = let l = written-length p k.0 (open_table p) t k.1 in let h = k.1 in omega arith;
      second_long = let l = marks-length p k.0 u k.2 in let h = k.2 in omega arith;
      holds = λ x m. held-written p k.0 (open_table p) t x (of_cells p k.0 x m) (cell_no_mark p k.0 [] none-there 0 x m);
    }

pub opened : (p : Pattern) (s : State) (t u : List ℤ) → open_refusal p (length t) (length u) ≡ none → Between p [] (open_state p t u s) (open_first p t u) (open_second p t u)
opened p s t u e = rw e (fresh p t u (open_parts p (length t) (length u) e))

pub demand3 : Demand3
demand3 p s t u e calls = all_right p calls [] (open_state p t u s) (open_first p t u) (open_second p t u) (opened p s t u e)

pub only-three_causes : OnlyThreeCauses
only-three_causes p s t u e calls = all_possible p calls [] (open_state p t u s) (open_first p t u) (open_second p t u) (opened p s t u e)
