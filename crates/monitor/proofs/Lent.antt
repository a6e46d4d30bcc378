-- What feeding makes of any lent table: tables of what is reached from its cells.
use Prim.Native.Nat.{ℕ, zero, suc, ◌+◌, ◌<◌}
use native.Mathlib.Omega.{arith}
use mathlib.Core.Path.{◌≡◌, refl, sym, ap, subst, ◌∙◌}
use mathlib.Core.Logic.{◌⊎◌}
use mathlib.Core.List.{List}
use mathlib.Core.Option.{Option, none}
use lib.ListN.{length, drop, get_or}
use lib.Seq.{take_at, drop_at}
use lib.IntN.{ℤ, pos}
use Rattle.weighting.specs.Order.{IsBest}
use Rattle.weighting.proofs.Weightings.{weighting_of}
use Rattle.weighting.specs.Cell.{mark, cell_of, held_in}
use Rattle.weighting.proofs.Cell.{NoMark, held_in-cell_of, small_no_mark}
use Rattle.pattern.specs.declared.Pattern.{Pattern}
use Rattle.pattern.specs.declared.Refusal.{Refusal}
use Rattle.pattern.specs.Clocks.{Clocks}
use Rattle.pattern.specs.Cells.{cells_needed}
use Rattle.pattern.specs.Distance.{Sample}
use Rattle.pattern.proofs.SoundLaws.{parts}
use Rattle.walks.specs.Tables.{Table, next}
use Rattle.walks.proofs.TableBest.{table_best}
use Rattle.walks.proofs.Entries.{reports-reached}
use Rattle.book.specs.Automaton.{same_clocks, held_automaton}
use Rattle.monitor.specs.declared.State.{State}
use Rattle.monitor.specs.Cells.{state_at, index_of, cell_states, held_by, written}
use Rattle.monitor.specs.Tick.{ticks_later, report_of}
use Rattle.monitor.specs.State.{last_sample, piece_later}
use Rattle.monitor.specs.Open.{unless_refused}
use Rattle.monitor.specs.Feed.{Call, feed_refusal, piece_view, table_after, report_after, feed_state, feed_first, feed_second, feed_scores, feed_lengths}
use Rattle.monitor.specs.Demand.{BestAmong, NoneAmong}
use Rattle.monitor.specs.Between.{Aside}
use Rattle.monitor.specs.Lent.{CellsSayWorths, values_before, call_view, Reached, EndsThere, FedFrom, LentTablesFed}
use Rattle.monitor.proofs.Numbers.{made-front}
use Rattle.monitor.proofs.CellLaws.{closed, celled_at, in_cells}
use Rattle.monitor.proofs.Sizes.{tick_sized, lent_sized}
use Rattle.monitor.proofs.Written.{aside-written, cell-is, only-cells_hold, held-within, held_low}
use Rattle.monitor.proofs.Accepted.{Fed, fed}
use Rattle.monitor.proofs.Reports.{score-told, length-told, scores-rest, lengths-rest, scores_are_long, lengths_are_long, best_said}

pub cells_say_worths : CellsSayWorths
cells_say_worths p sound t =
    record {
      each = cell-is p sound t;
      no_other = λ x w e. let k = only-cells_hold p sound t x w e in (index_of p x, k.0, k.1);
    }

-- the view of the piece's ticks, by what each is compared with
view_is : (p : Pattern) (s : State) (vs : Sample) (i : ℕ) → piece_view p (last_sample p s) vs i ≡ call_view p s vs i
unfolding piece_view
view_is p s vs zero = refl
view_is p s vs (suc i) = refl

module _ (p : Pattern) (s : State) (t u : List ℤ) (c : Call) (given : feed_refusal p s t u c ≡ none) where
  abbrev vs : Sample
  vs = c.values

  ok : Fed p s t (length u) c.duration vs (length c.scores) (length c.lengths)
  ok = fed p s t (length u) c.duration vs (length c.scores) (length c.lengths) given

  -- the table n ticks into the call
  abbrev table : ℕ → Table ℤ Clocks
  table n = ticks_later p (call_view p s vs) (held_by p t) n

  table_is : (n : ℕ) → table_after p s t vs n ≡ table n
  table_is zero = refl
  table_is (suc n) = λ i. next (weighting_of p.weighing) (held_automaton p) same_clocks p.high (cell_states p) (view_is p s vs n i) (table_is n i)

  -- ---- cells

  no_mark : (n i : ℕ) → i < cells_needed p → NoMark (table n (state_at p i))
  no_mark n i l e =
      let a = celled_at p ok.sound i l in
      let low = a.low in
      let high = (parts p ok.sound).short_high in
      let h = lent_sized p ok.sound (call_view p s vs) (λ j f k g q. tick_sized p ok.sound (values_before p s vs j) vs ok.piece.values f k g q)
      (held_by p t) (held_low p ok.sound t ok.tables.first ok.cells) n (state_at p i) mark (in_cells p ok.sound (state_at p i) a) e in
      small_no_mark mark (omega arith) refl

  cell-left : (i : ℕ) → i < cells_needed p → held_in (get_or (feed_first p s t u c) i mark) ≡ table c.duration (state_at p i)
  unfolding written
  cell-left i l =
      ap (λ (o : Option Refusal). held_in (get_or (unless_refused o (written p (table_after p s t vs c.duration) t) t) i mark)) given
      ∙ ap held_in (made-front (λ j. cell_of (table_after p s t vs c.duration (state_at p j))) (cells_needed p) i mark (drop (cells_needed p) t) l)
      ∙ ap (λ (U : Table ℤ Clocks). held_in (cell_of (U (state_at p i)))) (table_is c.duration)
      ∙ held_in-cell_of (table c.duration (state_at p i)) (no_mark c.duration i l)

  cell_best : (i : ℕ) → i < cells_needed p → IsBest (weighting_of p.weighing).order (Reached p s t vs c.duration (state_at p i)) (held_in (get_or (feed_first p s t u c) i mark))
  cell_best i l =
      subst (IsBest (weighting_of p.weighing).order (Reached p s t vs c.duration (state_at p i))) (sym (cell-left i l))
      (table_best (weighting_of p.weighing) (held_automaton p) same_clocks (call_view p s vs) p.high (cell_states p) (closed p ok.sound) (held_by p t) (held-within p ok.sound t) c.duration (state_at p i))

  -- ---- reports

  report-is : (i : ℕ) → report_after p s t vs i ≡ report_of p (table (i + 1))
  report-is i = let e : suc i ≡ i + 1 = omega arith in ap (report_of p) (table_is (suc i)) ∙ ap (λ (n : ℕ). report_of p (table n)) e

  report_best : (i : ℕ) → i < c.duration
      → BestAmong p (EndsThere p s t vs (i + 1)) (get_or (feed_scores p s t u c) i (pos 0)) (get_or (feed_lengths p s t u c) i 0)
      ⊎ NoneAmong (EndsThere p s t vs (i + 1)) (get_or (feed_scores p s t u c) i (pos 0)) (get_or (feed_lengths p s t u c) i 0)
  report_best i l =
      rw (score-told p s t u c given i l, length-told p s t u c given i l, report-is i)
      (best_said p (EndsThere p s t vs (i + 1)) (report_of p (table (i + 1)))
      (reports-reached (weighting_of p.weighing) (held_automaton p) same_clocks (call_view p s vs) p.high (cell_states p) (closed p ok.sound) (held_by p t) (held-within p ok.sound t) p.low (i + 1)))

  -- ---- the rest of what was lent

  aside-left : Aside p t u (feed_first p s t u c) (feed_second p s t u c)
  aside-left = rw given (aside-written p ok.sound t u (table_after p s t vs c.duration) t u ok.tables.first ok.tables.second refl refl refl refl)

  state-left : feed_state p s t u c ≡ piece_later p s c.duration vs
  state-left = ap (λ (o : Option Refusal). unless_refused o (piece_later p s c.duration vs) s) given

  left : FedFrom p s t u c
  left =
      record {
        cells = cell_best;
        reports = report_best;
        later_scores = scores-rest p s t u c given;
        later_lengths = lengths-rest p s t u c given;
        scores_long = scores_are_long p s t u c given ok.scores;
        lengths_long = lengths_are_long p s t u c given ok.lengths;
        aside = aside-left;
        ticks = ap (λ (q : State). q.ticks) state-left;
        last_values = ap (last_sample p) state-left ∙ take_at vs (drop p.channels s.last) p.channels ok.piece.count;
        unused = ap (λ (q : State). drop p.channels q.last) state-left ∙ drop_at vs (drop p.channels s.last) p.channels ok.piece.count;
      }

pub lent-tables_fed : LentTablesFed
lent-tables_fed p s t u c given = left p s t u c given
