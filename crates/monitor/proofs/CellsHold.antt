-- Between calls each cell holds the best worth of the unfinished runs in its state.
use Prim.Native.Nat.{ℕ, ◌≤◌, ◌<◌}
use native.Mathlib.Omega.{arith}
use mathlib.Core.Path.{◌≡◌, refl, sym, ap, subst, ◌∙◌}
use mathlib.Core.List.{List, [], ◌∷◌}
use mathlib.Core.Option.{Option, none, some}
use mathlib.Core.Bool.{true}
use lib.ListN.{length}
use lib.IntN.{ℤ}
use Rattle.weighting.specs.Order.{IsBest}
use Rattle.weighting.proofs.Weightings.{weighting_of}
use Rattle.weighting.proofs.Best.{IsBest_iff}
use Rattle.pattern.specs.declared.Pattern.{Pattern}
use Rattle.pattern.specs.declared.Refusal.{Refusal}
use Rattle.pattern.specs.Sound.{sound_of}
use Rattle.pattern.specs.Clocks.{Clocks}
use Rattle.pattern.specs.Cells.{cells_needed}
use Rattle.record.specs.Record.{Book}
use Rattle.walks.specs.Automaton.{State as RunState}
use Rattle.walks.specs.Walks.{Reach}
use Rattle.walks.proofs.Held.{held-walks}
use Rattle.walks.proofs.TableBest.{table_best}
use Rattle.walks.proofs.ReportsBest.{opening-within}
use Rattle.book.specs.Automaton.{automaton_of, held, same_clocks, held_automaton}
use Rattle.book.specs.View.{view_of}
use Rattle.book.proofs.Ceilings.{ceilings_hold}
use Rattle.book.proofs.Unfinished.{unfinished_are_reached}
use Rattle.monitor.specs.declared.State.{State}
use Rattle.monitor.specs.Cells.{state_at, cell_states}
use Rattle.monitor.specs.Tick.{open_table}
use Rattle.monitor.specs.Open.{open_state, open_first, open_second}
use Rattle.monitor.specs.Feed.{Call, feed_refusal, table_after, feed_state, feed_first, feed_second}
use Rattle.monitor.specs.Demand.{book_after}
use Rattle.monitor.specs.Between.{NowIn, Aside, TablesHold, HoldAfter, CellsHold}
use Rattle.monitor.proofs.CellLaws.{closed, celled_at, in_cells}
use Rattle.monitor.proofs.Written.{aside-written, cell-is}
use Rattle.monitor.proofs.Between.{Between, book_table}
use Rattle.monitor.proofs.Demand.{after, open_parts, opened}

module _ (p : Pattern) (sound : sound_of p ≡ true) (b : Book) where
  -- ---- a cell of the book's table

  module _ (i : ℕ) (low : i < cells_needed p) where
    abbrev Reached : ℤ → Type 0
    Reached = Reach (weighting_of p.weighing) (held_automaton p) (view_of p b) p.high (open_table p) (length b) (state_at p i)

    to-run : (w : ℤ) → Reached w → NowIn p b i w
    to-run w r =
        let k = (held-walks (weighting_of p.weighing) (automaton_of p) same_clocks (view_of p b) p.high (held p) (ceilings_hold p sound) (length b) (state_at p i) w).1 r in
        let short : k.0.len ≤ p.high = subst (λ (n : ℕ). n ≤ p.high) (sym (ap (λ (s : RunState Clocks). s.len) k.1)) (celled_at p sound i low).low in
        record {
          state = k.0;
          run = (unfinished_are_reached p sound b p.high (length b) k.0 w (omega arith) short).1 k.2;
          cell = k.1;
        }

    of_run : (w : ℤ) → NowIn p b i w → Reached w
    of_run w r =
        let short : r.state.len ≤ p.high = subst (λ (n : ℕ). n ≤ p.high) (sym (ap (λ (s : RunState Clocks). s.len) r.cell)) (celled_at p sound i low).low in
        (held-walks (weighting_of p.weighing) (automaton_of p) same_clocks (view_of p b) p.high (held p) (ceilings_hold p sound) (length b) (state_at p i) w).0
        (r.state, r.cell, (unfinished_are_reached p sound b p.high (length b) r.state w (omega arith) short).0 r.run)

    cell_best : IsBest (weighting_of p.weighing).order (NowIn p b i) (book_table p b (state_at p i))
    cell_best =
        IsBest_iff (weighting_of p.weighing).order to-run of_run (book_table p b (state_at p i))
        (table_best (weighting_of p.weighing) (held_automaton p) same_clocks (view_of p b) p.high (cell_states p) (closed p sound) (open_table p)
        (opening-within (weighting_of p.weighing) (held_automaton p) same_clocks p.high (cell_states p) (closed p sound)) (length b) (state_at p i))

-- ---- the rest of both tables

module _ (p : Pattern) (sound : sound_of p ≡ true) (t₀ u₀ : List ℤ) where
  aside-after : (b : Book) (s : State) (t u : List ℤ) → Between p b s t u → Aside p t₀ u₀ t u → (c : Call) → Aside p t₀ u₀ (feed_first p s t u c) (feed_second p s t u c)
  aside-after b s t u h k c = by (feed_refusal p s t u c) refl
    where
      by : (o : Option Refusal) → feed_refusal p s t u c ≡ o → Aside p t₀ u₀ (feed_first p s t u c) (feed_second p s t u c)
      by none e = rw e (aside-written p sound t₀ u₀ (table_after p s t c.values c.duration) t u h.first_long h.second_long k.further_first k.further_second k.first_long k.second_long)
      by (some r) e = rw e k

  -- ---- the list of calls

  holds-now : (b : Book) (s : State) (t u : List ℤ) → Between p b s t u → Aside p t₀ u₀ t u → TablesHold p t₀ u₀ b t u
  holds-now b s t u h k =
      record {
        cells = λ i l.
            subst (IsBest (weighting_of p.weighing).order (NowIn p b i))
            (sym (h.holds (state_at p i) (in_cells p sound (state_at p i) (celled_at p sound i l))) ∙ cell-is p sound t i l)
            (cell_best p sound b i l);
        aside = k;
      }

  hold_after : (calls : List Call) (b : Book) (s : State) (t u : List ℤ) → Between p b s t u → Aside p t₀ u₀ t u → HoldAfter p t₀ u₀ b s t u calls
  hold_after [] b s t u h k = (record { ticks = h.ticks; last = h.last }, holds-now b s t u h k)
  hold_after (c ∷ cs) b s t u h k =
      hold_after cs (book_after p b c) (feed_state p s t u c) (feed_first p s t u c) (feed_second p s t u c) (after p b s t u h c) (aside-after b s t u h k c)

pub cells_hold : CellsHold
cells_hold p s t u e calls =
    let o = open_parts p (length t) (length u) e in
    let k : Aside p t u (open_first p t u) (open_second p t u) = rw e (aside-written p o.0 t u (open_table p) t u o.1 o.2 refl refl refl refl) in
    hold_after p o.0 t u calls [] (open_state p t u s) (open_first p t u) (open_second p t u) (opened p s t u e) k
