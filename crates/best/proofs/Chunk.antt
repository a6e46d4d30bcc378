-- A stretch of equal ticks fed to a monitor that stands before it in a record's book: state, tables and reports are the
-- book's.
use Prim.Native.Nat.{ℕ, ◌+◌, ◌≤◌, ◌<◌}
use native.Mathlib.Omega.{arith}
use mathlib.Core.Path.{◌≡◌, refl, sym, ap, subst, ◌∙◌}
use mathlib.Core.List.{List, ◌++◌, append_assoc, Memᴰ}
use mathlib.Core.Option.{Option, none}
use mathlib.Core.Bool.{true}
use borrow.Author.Tests.{eq-eqb, le-leb, le-ltb}
use lib.ListN.{length, get_or, replicate, length-append, length-replicate}
use lib.IntN.{ℤ, pos}
use Rattle.weighting.proofs.Weightings.{weighting_of}
use Rattle.pattern.specs.declared.Pattern.{Pattern}
use Rattle.pattern.specs.declared.Refusal.{Refusal}
use Rattle.pattern.specs.Sound.{sound_of}
use Rattle.pattern.specs.Clocks.{Clocks}
use Rattle.pattern.specs.Cells.{cells_needed}
use Rattle.pattern.specs.Distance.{Sample}
use Rattle.record.specs.Record.{Book}
use Rattle.walks.specs.Automaton.{State as Place}
use Rattle.walks.specs.Tables.{Table}
use Rattle.walks.proofs.Cut.{only-passed}
use Rattle.book.specs.View.{sample_at, before, view_of}
use Rattle.book.specs.Automaton.{same_clocks, held_automaton}
use Rattle.monitor.specs.declared.State.{State}
use Rattle.monitor.specs.Cells.{cell_states, held_by, written}
use Rattle.monitor.specs.Tick.{open_table, score_in, length_in, report_of}
use Rattle.monitor.specs.State.{piece_later}
use Rattle.monitor.specs.Open.{unless_refused, marks}
use Rattle.monitor.specs.Feed.{Call, piece_broken, feed_refusal, table_after, feed_state, feed_first, feed_second, feed_scores, feed_lengths}
use Rattle.monitor.specs.Demand.{refusal_by}
use Rattle.monitor.proofs.CellLaws.{of_cells}
use Rattle.monitor.proofs.Written.{held-written, written_same}
use Rattle.monitor.proofs.PieceViews.{sample-front, before-front, view_front, longer, before-end}
use Rattle.monitor.proofs.Between.{Fine, Between, book_table, ticks-in, rest-is, cell_no_mark}
use Rattle.monitor.proofs.Demand.{feed_given, score-at, length-at}
use Rattle.best.specs.Best.{score_at, length_at}
use Rattle.best.specs.Search.{table_to, state_to}

-- ---- a book and a longer one

module _ (p : Pattern) (b more : Book) where
  pub table-front : (n : ℕ) → n ≤ length b → table_to p (b ++ more) n ≡ table_to p b n
  table-front n h =
      only-passed (weighting_of p.weighing) (held_automaton p) same_clocks p.high (cell_states p) (view_of p (b ++ more)) (view_of p b) (open_table p) n
      (λ i f k q. view_front p b more i f k (omega arith))

  pub state-front : (n : ℕ) → n ≤ length b → state_to p (b ++ more) n ≡ state_to p b n
  state-front n h = rw (before-front p b more n h)

-- ---- the stretch

module _ (p : Pattern) (sound : sound_of p ≡ true) (b : Book) (c : Call) (rest : Book) where
  abbrev d : ℕ
  d = c.duration

  abbrev x : Sample
  x = c.values

  -- the book: what lies before, the stretch, the rest
  abbrev pub whole : Book
  whole = longer p b d x ++ rest

  module _ (few : length b + d ≤ 2147483647) (fine : (i : ℕ) → i < length b + d → Fine p (sample_at whole i)) (value : Fine p x)
      (some-ticks : 1 ≤ d) (short : d ≤ 65535) (scores : d ≤ length c.scores) (lengths : d ≤ length c.lengths)
      (t u : List ℤ) (first_long : cells_needed p ≤ length t) (second_long : cells_needed p ≤ length u) (first : t ≡ written p (table_to p whole (length b)) t) where
    abbrev s : State
    s = state_to p whole (length b)

    long-next : length (longer p b d x) ≡ length b + d
    long-next = length-append b (replicate d x) ∙ ap (λ (n : ℕ). length b + n) (length-replicate d x)

    assoc : whole ≡ b ++ (replicate d x ++ rest)
    assoc = append_assoc b (replicate d x) rest

    fine_before : (i : ℕ) → i < length b → Fine p (sample_at b i)
    fine_before i l = subst (Fine p) (ap (λ (w : Book). sample_at w i) assoc ∙ sample-front p b (replicate d x ++ rest) i l) (fine i (omega arith))

    table_before : (n : ℕ) → n ≤ length b → table_to p whole n ≡ table_to p b n
    table_before n l = ap (λ (w : Book). table_to p w n) assoc ∙ table-front p b (replicate d x ++ rest) n l

    between : Between p b s t u
    between =
        record {
          sound = sound;
          ticks = refl;
          few = omega arith;
          fine = fine_before;
          last = ap (λ (q : State). q.last) (ap (λ (w : Book). state_to p w (length b)) assoc ∙ state-front p b (replicate d x ++ rest) (length b) (omega arith));
          first_long = first_long;
          second_long = second_long;
          holds = held;
        }
      where
        held : (y : Place Clocks) → Memᴰ y (cell_states p) → held_by p t y ≡ book_table p b y
        held y m =
            ap (λ (q : List ℤ). held_by p q y) (first ∙ ap (λ (U : Table ℤ Clocks). written p U t) (table_before (length b) (omega arith)))
            ∙ held-written p sound (table_to p b (length b)) t y (of_cells p sound y m) (cell_no_mark p sound b fine_before (length b) y m)

    none_given : refusal_by p b c ≡ none
    unfolding refusal_by piece_broken
    none_given =
        rw (le-leb 1 d some-ticks, le-leb d 65535 short, eq-eqb (length x) p.channels value.0, value.1, le-ltb 2147483647 (length b + d) few, le-ltb (length c.scores) d scores, le-ltb (length c.lengths) d lengths)

    pub given : feed_refusal p s t u c ≡ none
    given = feed_given p b s t u between c none_given

    -- ---- afterwards

    pub state-after : feed_state p s t u c ≡ state_to p whole (length b + d)
    state-after =
        let e : before p whole (length b + d) ≡ x =
        before-front p (longer p b d x) rest (length b + d) (let q = long-next in omega arith) ∙ before-end p b d x some-ticks in
        ap (λ (o : Option Refusal). unless_refused o (piece_later p s d x) s) given
        ∙ rw (rest-is p b s t u between, e)

    pub first-after : feed_first p s t u c ≡ written p (table_to p whole (length b + d)) t
    first-after =
        ap (λ (o : Option Refusal). unless_refused o (written p (table_after p s t x d) t) t) given
        ∙ written_same p _ _ t (ticks-in p b s t u between c none_given d (omega arith))
        ∙ ap (λ (U : Table ℤ Clocks). written p U t) (sym (table-front p (longer p b d x) rest (length b + d) (let e = long-next in omega arith)))

    pub second-after : feed_second p s t u c ≡ marks p u
    second-after = ap (λ (o : Option Refusal). unless_refused o (marks p u) u) given

    report-front : (i : ℕ) → i < d → table_to p (longer p b d x) (length b + i + 1) ≡ table_to p whole (length b + i + 1)
    report-front i l = sym (table-front p (longer p b d x) rest (length b + i + 1) (let e = long-next in omega arith))

    pub score-after : (i : ℕ) → i < d → get_or (feed_scores p s t u c) i (pos 0) ≡ score_at p whole (length b + i + 1)
    score-after i l = score-at p b s t u between c none_given i l ∙ ap (λ (U : Table ℤ Clocks). score_in (report_of p U)) (report-front i l)

    pub length-after : (i : ℕ) → i < d → get_or (feed_lengths p s t u c) i 0 ≡ length_at p whole (length b + i + 1)
    length-after i l = length-at p b s t u between c none_given i l ∙ ap (λ (U : Table ℤ Clocks). length_in (report_of p U)) (report-front i l)
