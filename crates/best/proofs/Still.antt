-- A piece of more than high + 1 ticks: after those the table stands still, and with it the reports and the choice.
use Prim.Native.Nat.{ℕ, zero, suc, ◌+◌, ◌-◌, ◌≤◌, ◌<◌, min}
use native.Mathlib.Omega.{arith}
use mathlib.Core.Path.{◌≡◌, refl, sym, ap, subst, ◌∙◌}
use mathlib.Core.Logic.{◌⊎◌, inl, inr, ⊎_elim}
use mathlib.Core.List.{List, ◌++◌, Memᴰ}
use mathlib.Core.Bool.{Bool, true, false}
use borrow.Author.Tests.{leb-true, leb-false}
use lib.Dec.{leb}
use lib.ListN.{length, take, get_or, replicate, length-append, length-replicate}
use lib.IntN.{ℤ, pos}
use Rattle.weighting.proofs.Weightings.{weighting_of}
use Rattle.pattern.specs.declared.Pattern.{Pattern}
use Rattle.pattern.specs.Sound.{sound_of}
use Rattle.pattern.specs.Clocks.{Clocks}
use Rattle.pattern.specs.Distance.{Sample}
use Rattle.record.specs.Record.{Book, sample_at, total, record_sound, book_of}
use Rattle.record.proofs.RecordLaws.{parts, total-more}
use Rattle.walks.specs.Automaton.{View, State as Place}
use Rattle.walks.specs.Tables.{Table, table_at}
use Rattle.walks.proofs.Cut.{cut}
use Rattle.walks.proofs.Still.{still, still-reports}
use Rattle.book.specs.View.{before, tick_view, view_of}
use Rattle.book.specs.Automaton.{same_clocks, held_automaton}
use Rattle.monitor.specs.declared.State.{State}
use Rattle.monitor.specs.Cells.{cell_states, written}
use Rattle.monitor.specs.Tick.{open_table, report_of, score_in, length_in}
use Rattle.monitor.specs.Feed.{piece_view}
use Rattle.monitor.proofs.CellLaws.{of_cells}
use Rattle.monitor.proofs.Written.{written_same}
use Rattle.monitor.proofs.PieceViews.{longer, before-front, before-end, view_front, view_new}
use Rattle.best.specs.declared.Search.{Search}
use Rattle.best.specs.Best.{chosen_with, chosen_to, score_at, length_at}
use Rattle.best.specs.Search.{table_to, SearchedTo, passed}
use Rattle.best.proofs.Choices.{same_again}
use Rattle.best.proofs.Pieces.{front, rest, split, front_long, start-low}

-- ---- a book of which high + 1 ticks from tick n on, and `more` after them, are all alike but for the first

module _ (p : Pattern) (sound : sound_of p ≡ true) (b : Book) (n more : ℕ) (x : Sample)
    (all_Alike : (t : ℕ) (f : Bool) (k : ℕ) → suc t < suc p.high + more → view_of p b (n + suc t) f k ≡ tick_view p x x f k) where
  -- the table after m of them, from the one that they found
  abbrev seen : View ℤ
  seen zero = view_of p b n
  seen (suc t) = tick_view p x x

  abbrev alike : ℕ → Table ℤ Clocks
  alike m = table_at (weighting_of p.weighing) (held_automaton p) same_clocks p.high (cell_states p) seen (table_to p b n) m

  sees : (t : ℕ) (f : Bool) (k : ℕ) → t < suc p.high + more → view_of p b (n + t) f k ≡ seen t f k
  sees zero f k h = let e : n + 0 ≡ n = omega arith in ap (λ (j : ℕ). view_of p b j f k) e
  sees (suc t) f k h = all_Alike t f k h

  later : (m : ℕ) → m ≤ suc p.high + more → table_to p b (n + m) ≡ alike m
  later m h =
      cut (weighting_of p.weighing) (held_automaton p) same_clocks p.high (cell_states p) (view_of p b) seen (open_table p) n m
      (λ t f k l. sees t f k (omega arith))

  short : (s : Place Clocks) → Memᴰ s (cell_states p) → s.len ≤ p.high
  short s m = (of_cells p sound s m).low

  cells-still : (k : ℕ) → k ≤ more → (s : Place Clocks) → Memᴰ s (cell_states p) → table_to p b (n + (suc p.high + k)) s ≡ table_to p b (n + suc p.high) s
  cells-still k h s m =
      ap (λ (U : Table ℤ Clocks). U s) (later (suc p.high + k) (omega arith))
      ∙ still (weighting_of p.weighing) (held_automaton p) same_clocks p.high (cell_states p) seen (tick_view p x x) (λ t. refl) (table_to p b n) k s (short s m)
      ∙ sym (ap (λ (U : Table ℤ Clocks). U s) (later (suc p.high) (omega arith)))

  report-still : (k : ℕ) → k ≤ more → report_of p (table_to p b (n + (suc p.high + k))) ≡ report_of p (table_to p b (n + suc p.high))
  report-still k h =
      ap (report_of p) (later (suc p.high + k) (omega arith))
      ∙ still-reports (weighting_of p.weighing) (held_automaton p) same_clocks p.high (cell_states p) short p.low seen (tick_view p x x) (λ t. refl) (table_to p b n) k
      ∙ sym (ap (report_of p) (later (suc p.high) (omega arith)))

  pub written-still : (t : List ℤ) → written p (table_to p b (n + (suc p.high + more))) t ≡ written p (table_to p b (n + suc p.high)) t
  written-still t = written_same p _ _ t (cells-still more (omega arith))

  -- each later end has the same report again
  again : (end : ℕ) → chosen_with p (chosen_to p b (suc (n + p.high))) end (score_at p b (suc (n + p.high))) (length_at p b (suc (n + p.high))) ≡ chosen_to p b (suc (n + p.high))
  unfolding chosen_to
  again end =
      let q = suc (n + p.high) in
      same_again p q (score_at p b q) end (chosen_to p b (n + p.high)) (length_at p b q)

  chosen_alike : (k : ℕ) → k ≤ more → chosen_to p b (n + (suc p.high + k)) ≡ chosen_to p b (suc (n + p.high))
  unfolding chosen_to
  chosen_alike zero h = let e : n + (suc p.high + 0) ≡ suc (n + p.high) = omega arith in ap (chosen_to p b) e
  chosen_alike (suc k) h =
      let q = suc (n + p.high) in
      let m = n + (suc p.high + k) in
      let e : n + (suc p.high + suc k) ≡ suc m = omega arith in
      let z : n + suc p.high ≡ q = omega arith in
      let r : report_of p (table_to p b (suc m)) ≡ report_of p (table_to p b q) =
      ap (λ (j : ℕ). report_of p (table_to p b j)) (sym e) ∙ report-still (suc k) h ∙ ap (λ (j : ℕ). report_of p (table_to p b j)) z in
      ap (chosen_to p b) e
      ∙ (λ i. chosen_with p (chosen_alike k (omega arith) i) (suc m) (score_in (r i)) (length_in (r i)))
      ∙ again (suc m)

  pub chosen_still : chosen_to p b (n + (suc p.high + more)) ≡ chosen_to p b (n + suc p.high)
  chosen_still = let z : suc (n + p.high) ≡ n + suc p.high = omega arith in chosen_alike more (omega arith) ∙ ap (chosen_to p b) z

-- ---- a piece of a record

module _ (p : Pattern) (sound : sound_of p ≡ true) (ds : List ℕ) (vs : List ℤ) (i : ℕ) (inside : i < length ds) where
  abbrev B : Book
  B = book_of p.channels ds vs

  abbrev x : Sample
  x = sample_at p.channels vs i

  abbrev start : ℕ
  start = total (take i ds)

  abbrev d : ℕ
  d = get_or ds i 0

  abbrev b : Book
  b = front p p.channels ds vs i 0

  begins : length b ≡ start
  begins = front_long p p.channels ds vs i 0 ∙ omega arith

  -- the book with k ticks of the piece
  long : (k : ℕ) → length (longer p b k x) ≡ start + k
  long k = length-append b (replicate k x) ∙ (let e = length-replicate k x in let f = begins in omega arith)

  -- a later tick of the piece is not new
  view_later : (t : ℕ) (f : Bool) (k : ℕ) → suc t < d → view_of p B (start + suc t) f k ≡ tick_view p x x f k
  unfolding piece_view
  view_later t f k h =
      let tail = rest p p.channels ds vs i (0 + d) in
      let e : start + suc t ≡ length b + suc t = let g = begins in omega arith in
      subst (λ (w : Book). view_of p w (start + suc t) f k ≡ tick_view p x x f k) (split p p.channels ds vs i 0 d inside (omega arith))
      (ap (λ (m : ℕ). view_of p (longer p b d x ++ tail) m f k) e
      ∙ view_front p (longer p b d x) tail (length b + suc t) f k (let l = long d in let g = begins in omega arith)
      ∙ view_new p b d x (suc t) f k h)

  -- after a tick of the piece its values are the last
  last-is : (k : ℕ) → 1 ≤ k → k ≤ d → before p B (start + k) ≡ x
  last-is k some-ticks h =
      let tail = rest p p.channels ds vs i (0 + k) in
      let e : start + k ≡ length b + k = let g = begins in omega arith in
      subst (λ (w : Book). before p w (start + k) ≡ x) (split p p.channels ds vs i 0 k inside (omega arith))
      (ap (before p (longer p b k x ++ tail)) e
      ∙ before-front p (longer p b k x) tail (length b + k) (let l = long k in let g = begins in omega arith)
      ∙ before-end p b k x some-ticks)

  -- the rest of the piece has room
  pub room-passes : record_sound p.channels ds vs ≡ true → (m : ℕ) → m ≤ d → (s : Search) → SearchedTo p B (start + m) s → s.state.ticks + (d - m) ≤ 2147483647
  room-passes fits m low s k =
      let e = ap (λ (q : State). q.ticks) k.0 in
      let a = total-more ds i inside in
      let l = start-low p p.channels ds vs (i + 1) in
      let r = (parts p.channels ds vs fits).short in
      omega arith

  -- m ticks are fed: all of the piece, or those until the table stands still
  module _ (m : ℕ) (is : m ≡ min d (p.high + 1)) where
    all-or : (m ≡ d) ⊎ ((m ≡ p.high + 1) × (m ≤ d))
    all-or = by (leb d (p.high + 1)) refl
      where
        by : (y : Bool) → leb d (p.high + 1) ≡ y → (m ≡ d) ⊎ ((m ≡ p.high + 1) × (m ≤ d))
        by true e = let l = leb-true d (p.high + 1) e in inl (omega arith)
        by false e = let l = leb-false d (p.high + 1) e in inr (omega arith, omega arith)

    -- what is alike after high + 1 ticks of the piece, and at its end, is so after m ticks
    to_end : {A : Type 0} (g : ℕ → A) → ((m ≡ p.high + 1) → m ≤ d → g (start + (suc p.high + (d - m))) ≡ g (start + suc p.high)) → g (start + m) ≡ g (start + d)
    to_end g h =
        ⊎_elim (λ e. ap (λ (k : ℕ). g (start + k)) e)
        (λ k.
        let a : m ≡ p.high + 1 = k.0 in
        let l : m ≤ d = k.1 in
        let y : start + m ≡ start + suc p.high = omega arith in
        let z : start + (suc p.high + (d - m)) ≡ start + d = omega arith in
        ap g y ∙ sym (h a l) ∙ ap g z)
        all-or

    alike-there : m ≡ p.high + 1 → m ≤ d → (t : ℕ) (f : Bool) (k : ℕ) → suc t < suc p.high + (d - m) → view_of p B (start + suc t) f k ≡ tick_view p x x f k
    alike-there a l t f k h = view_later t f k (omega arith)

    pub table-passes : (t : List ℤ) → written p (table_to p B (start + m)) t ≡ written p (table_to p B (start + d)) t
    table-passes t = to_end (λ k. written p (table_to p B k) t) (λ a l. written-still p sound B start (d - m) x (alike-there a l) t)

    choice-passes : chosen_to p B (start + m) ≡ chosen_to p B (start + d)
    choice-passes = to_end (chosen_to p B) (λ a l. chosen_still p sound B start (d - m) x (alike-there a l))

    last-passes : before p B (start + m) ≡ before p B (start + d)
    last-passes =
        ⊎_elim (λ e. ap (λ (k : ℕ). before p B (start + k)) e)
        (λ k.
        let a : m ≡ p.high + 1 = k.0 in
        let l : m ≤ d = k.1 in
        last-is m (omega arith) l ∙ sym (last-is d (omega arith) (omega arith)))
        all-or

    -- the rest of the piece
    pub passes : (s : Search) → SearchedTo p B (start + m) s → SearchedTo p B (start + d) (passed s (d - m))
    passes s k =
        let e : start + m + (d - m) ≡ start + d = omega arith in (
          ap (λ (q : State). record { ticks = q.ticks + (d - m); last = q.last }) k.0
              ∙ (λ j. record { ticks = e j; last = last-passes j ++ replicate (8 - p.channels) (pos 0) }),
          k.1 ∙ choice-passes,
        )
