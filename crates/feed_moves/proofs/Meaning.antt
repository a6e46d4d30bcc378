-- The code's tables and reports are the definitions'.
use Prim.Native.Nat.{ℕ, zero, suc, ◌+◌, ◌*◌, ◌≤◌, ◌<◌}
use native.Mathlib.Omega.{arith}
use mathlib.Core.Path.{◌≡◌, refl, sym, ap, subst, fun_ext, ◌∙◌}
use mathlib.Core.Logic.{inl, inr, ⊎_elim}
use mathlib.Core.List.{List, ◌++◌, map, Memᴰ}
use Rattle.std.specs.Prelude.{Option, Some, None}
use mathlib.Core.Bool.{Bool, true, false}
use native.Mathlib.Nat.{mul-le-mul_right}
use lib.ListN.{length, take, drop, get_or, length-map, get_or-map}
use lib.IntN.{ℤ, pos, nat_abs}
use Rattle.weighting.specs.declared.Weighing.{Weighing}
use Rattle.weighting.specs.declared.Weighing.TheVariants.{Margin, Sum}
use Rattle.weighting.proofs.Weightings.{weighting_of}
use Rattle.weighting.specs.Cell.{mark, held_in}
use Rattle.weighting.proofs.Cell.{held_in-other}
use Rattle.pattern.specs.declared.Pattern.{Pattern}
use Rattle.pattern.specs.declared.Place.{Place}
use Rattle.pattern.specs.Slots.{all}
use Rattle.pattern.specs.Sound.{no_place, sound_of}
use Rattle.pattern.specs.InUse.{place_at}
use Rattle.pattern.specs.Clocks.{Clocks}
use Rattle.pattern.specs.Cells.{cells_needed}
use Rattle.pattern.specs.Distance.{Sample}
use Rattle.pattern.proofs.SoundLaws.{parts}
use Rattle.record.specs.Record.{value_in_range}
use Rattle.walks.specs.Automaton.{State as Place'}
use Rattle.walks.specs.Tables.{Table, next}
use Rattle.walks.proofs.Cut.{only-cells}
use Rattle.walks.proofs.Rows.{reports-only-cells}
use Rattle.book.specs.Automaton.{same_clocks, held_automaton}
use Rattle.book.specs.View.{gain_in, tick_view}
use Rattle.cells.specs.Layout.{layout_of, cells_in}
use Rattle.cells.proofs.Blocks.{row_next}
use Rattle.table.specs.declared.report.Report.{Report}
use Rattle.table.specs.Moves.{cell_at, open_of, gain_at}
use Rattle.table.proofs.Steps.{known_gains}
use Rattle.table.specs.Asks.{Known, Whole, Ticking, Filed}
use Rattle.table_laws.specs.Meaning.{result_of, About, Seen, Viewed}
use Rattle.table_laws.specs.Patterns.{Flags}
use Rattle.table_laws.proofs.Rows.{tick-keeps-whole, tick-leaves-further, open_leaves-further}
use Rattle.table_laws.proofs.Tick.{open_is-opening, tick-is-next}
use Rattle.table_laws.proofs.Report.{told-is-report}
use Rattle.table_laws.proofs.Patterns.{about_pattern, known_pattern}
use Rattle.monitor.specs.Cells.{layout, state_at, cell_states, held_by, written, up_to}
use Rattle.monitor.specs.Tick as monitor
use Rattle.monitor.specs.Tick.{open_table, ticks_later, score_in, length_in}
use Rattle.monitor.specs.Feed.{cell_fine, piece_view}
use Rattle.monitor.proofs.Numbers.{made_in, made-only}
use Rattle.monitor.proofs.CellLaws.{laid, cells_are, at-index, celled_at, is_a_cell}
use Rattle.monitor.proofs.Written.{fine-at}
use Rattle.monitor.proofs.Sizes.{GainSized, gain-in_sized}
use Rattle.feed_ticks.specs.Ticks.{kind_flag, kind_flags, gains_of, view_in, Common, common_of, view_at, table_to, score_of, length_of, scores_to, lengths_to, report_in, Telling}
use Rattle.feed_moves.proofs.Lists.{same_default, is-written}

-- ---- a report as the slices hold it

said_score : (r : Option Report) → score_of r ≡ score_in (result_of r)
said_score (Some r) = refl
said_score None = refl

said_length : (r : Option Report) → length_of r ≡ length_in (result_of r)
said_length (Some r) = refl
said_length None = refl

module _ (p : Pattern) (sound : sound_of p ≡ true) where
  -- what the code makes of the pattern once a piece
  abbrev pub ground : Common
  ground = common_of p

  places-long : (k : ℕ) → k < p.placecount → k < length p.places
  places-long k h = let s = (parts p sound).places in let f = s.few in let l = s.long in omega arith

  flag_at_lem : (ending : Bool) (k : ℕ) → k < p.placecount → get_or (kind_flags ending p) k false ≡ kind_flag ending (place_at p k).kind
  flag_at_lem ending k h =
      let d : kind_flag ending no_place.kind ≡ false = plain ending in
      subst (λ (x : Bool). get_or (kind_flags ending p) k x ≡ kind_flag ending (place_at p k).kind) d (get_or-map (λ l. kind_flag ending l.kind) p.places k no_place)
    where
      plain : (ending : Bool) → kind_flag ending no_place.kind ≡ false
      plain true = refl
      plain false = refl

  flags : Flags p (kind_flags false p) (kind_flags true p)
  flags = record { starts_are = flag_at_lem false; ends_are = flag_at_lem true }

  pub about : About (held_automaton p) (layout p) p.edges p.edgecount (kind_flags false p) (kind_flags true p)
  about = about_pattern p sound p.high (kind_flags false p) (kind_flags true p) flags

  -- ---- the lent cells, seen as a table

  pub seen : (t : List ℤ) → cells_needed p ≤ length t → Seen (layout p) t (cell_states p) (held_by p t)
  unfolding held_by
  seen t long =
      let e = cells_are p sound in
      record {
        listed = λ i h. let z : 0 + i ≡ i = omega arith in subst (λ (j : ℕ). Memᴰ (state_at p j) (cell_states p)) z (made_in (state_at p) 0 (cells_needed p) i (omega arith));
        only = λ s m. let r = made-only (state_at p) 0 (cells_needed p) s m in
            let h : r.0 < cells_needed p = r.1 in
            let z : 0 + r.0 ≡ r.0 = omega arith in
            (r.0, omega arith, r.2 ∙ ap (state_at p) z);
        holds = λ i h. let k : i < cells_needed p = omega arith in
            rw (is_a_cell p sound (state_at p i) (celled_at p sound i k), at-index p sound i k) (ap held_in (same_default t i mark (pos 0) (omega arith)));
      }

  -- ---- the view of a tick

  module _ (vs : Sample) (fine : all value_in_range vs ≡ true) (last : Sample) where
    gain-low : (f : Bool) (k : ℕ) → nat_abs (gain_in p.weighing (place_at p k) last vs f) ≤ 8000000
    gain-low f k = by p.weighing _ (gain-in_sized p sound last vs fine f k)
      where
        by : (w : Weighing) (z : ℤ) → GainSized w z → nat_abs z ≤ 8000000
        by Margin z h = omega arith
        by Sum z h = h

    gain-at : (f : Bool) (k : ℕ) → k < p.placecount → gain_at (gains_of p last vs f) k ≡ gain_in p.weighing (place_at p k) last vs f
    gain-at f k h =
        let made : Place → ℤ = λ l. gain_in p.weighing l last vs f in
        let long : k < length (map made p.places) = let e = length-map p.places made in let l = places-long k h in omega arith in
        same_default (map made p.places) k (pos 0) (made no_place) long ∙ get_or-map made p.places k no_place

    pub view_known : Known (layout p) (view_in p last vs) p.edges p.edgecount
    view_known =
        known_pattern p sound p.high (let s = (parts p sound).short_high in omega arith) (view_in p last vs)
        (λ k h. inr (rw (gain-at true k h) (gain-low true k)))
        (λ k h. inr (rw (gain-at false k h) (gain-low false k)))

    no_mark : (z : ℤ) → nat_abs z ≤ 8000000 → z ≡ mark → ⊥
    no_mark z h e = let l : nat_abs mark ≤ 8000000 = subst (λ (y : ℤ). nat_abs y ≤ 8000000) e h in omega arith

    seen_at : (f : Bool) (k : ℕ) → k < p.placecount → tick_view p last vs f k ≡ held_in (gain_at (gains_of p last vs f) k)
    seen_at f k h = sym (ap held_in (gain-at f k h) ∙ held_in-other _ (no_mark _ (gain-low f k)))

    pub view_seen : Viewed (layout p) (view_in p last vs) (tick_view p last vs)
    unfolding layout_of
    view_seen true k h = seen_at true k h
    view_seen false k h = seen_at false k h

  -- ---- the ticks of a piece

  module _ (vs : Sample) (fine : all value_in_range vs ≡ true) (last : Sample) (t : List ℤ) (long : cells_needed p ≤ length t) (whole : Whole t (layout p)) where
    -- the table after i ticks, and that it can be moved on
    abbrev to : ℕ → List ℤ
    to i = table_to ground (view_in p last vs) (view_in p vs vs) t i

    known_at : (i : ℕ) → Known (layout p) (view_at (view_in p last vs) (view_in p vs vs) i) p.edges p.edgecount
    known_at zero = view_known vs fine last
    known_at (suc i) = view_known vs fine vs

    pub whole_to : (i : ℕ) → Whole (to i) (layout p)
    unfolding table_to
    whole_to zero = whole
    whole_to (suc i) =
        tick-keeps-whole (layout p) p.weighing (view_at (view_in p last vs) (view_in p vs vs) i) p.edges p.edgecount (kind_flags false p) (kind_flags true p) (to i)
        (record { known = known_at i; whole = whole_to i })

    ticking_to : (i : ℕ) → Ticking (to i) (layout p) (view_at (view_in p last vs) (view_in p vs vs) i) p.edges p.edgecount
    ticking_to i = record { known = known_at i; whole = whole_to i }

    pub length_to : (i : ℕ) → length (to i) ≡ length t
    unfolding table_to
    length_to zero = refl
    length_to (suc i) =
        (tick-leaves-further (layout p) p.weighing (view_at (view_in p last vs) (view_in p vs vs) i) p.edges p.edgecount (kind_flags false p) (kind_flags true p) (to i) (ticking_to i)).0
        ∙ length_to i

    further-to : (i j : ℕ) → cells_needed p ≤ j → cell_at (to i) j ≡ cell_at t j
    unfolding table_to
    further-to zero j h = refl
    further-to (suc i) j h =
        (tick-leaves-further (layout p) p.weighing (view_at (view_in p last vs) (view_in p vs vs) i) p.edges p.edgecount (kind_flags false p) (kind_flags true p) (to i) (ticking_to i)).1 j (let e = cells_are p sound in omega arith)
        ∙ further-to i j h

    seen-to : (i : ℕ) → Seen (layout p) (to i) (cell_states p) (held_by p (to i))
    seen-to i = seen (to i) (let e = length_to i in omega arith)

    viewed_at : (i : ℕ) → Viewed (layout p) (view_at (view_in p last vs) (view_in p vs vs) i) (piece_view p last vs i)
    unfolding piece_view
    viewed_at zero = view_seen vs fine last
    viewed_at (suc i) = view_seen vs fine vs

    -- the definitions' table after i ticks
    abbrev meant : ℕ → Table ℤ Clocks
    meant i = ticks_later p (piece_view p last vs) (held_by p t) i

    agree : (i : ℕ) → ((k : ℕ) → k < cells_needed p → held_in (cell_at (to i) k) ≡ meant i (state_at p k)) → (x : Place' Clocks) → Memᴰ x (cell_states p) → held_by p (to i) x ≡ meant i x
    agree i f x m =
        let r = (seen-to i).only x m in
        let e = cells_are p sound in
        let h : r.0 < cells_in (layout p) = r.1 in
        subst (λ (y : Place' Clocks). held_by p (to i) y ≡ meant i y) (sym r.2) ((seen-to i).holds r.0 h ∙ f r.0 (omega arith))

    pub held_to : (i k : ℕ) → k < cells_needed p → held_in (cell_at (to i) k) ≡ meant i (state_at p k)
    unfolding table_to layout_of
    held_to zero k h = sym ((seen t long).holds k (let e = cells_are p sound in omega arith))
    held_to (suc i) k h =
        tick-is-next (layout p) p.weighing (view_at (view_in p last vs) (view_in p vs vs) i) p.edges p.edgecount (kind_flags false p) (kind_flags true p)
        (held_automaton p) about same_clocks (to i) (ticking_to i) (cell_states p) (held_by p (to i)) (seen-to i) (piece_view p last vs i) (viewed_at i) k (let e = cells_are p sound in omega arith)
        ∙ only-cells (weighting_of p.weighing) (held_automaton p) same_clocks p.high (cell_states p) (λ _. piece_view p last vs i) (held_by p (to i)) (meant i)
        (agree i (λ j l. held_to i j l)) 1 (state_at p k) ((seen t long).listed k (let e = cells_are p sound in omega arith))

    pub holds-to : (i : ℕ) (x : Place' Clocks) → Memᴰ x (cell_states p) → held_by p (to i) x ≡ meant i x
    holds-to i = agree i (held_to i)

    -- the cells after i ticks are the definitions' table, written
    pub written-to : (i : ℕ) → to i ≡ written p (meant i) t
    written-to i = is-written p sound (meant i) t (to i) long (length_to i) (held_to i) (further-to i)

    -- ---- reports

    -- the report of tick i is that of the table after it
    report-found : (i : ℕ) → result_of (report_in ground (view_in p last vs) (view_in p vs vs) t i) ≡ monitor.report_of p (meant (suc i))
    unfolding layout_of
    report-found i =
        told-is-report (layout p) p.weighing (view_at (view_in p last vs) (view_in p vs vs) i) p.edges p.edgecount (kind_flags false p) (kind_flags true p)
        (held_automaton p) about same_clocks p.low (parts p sound).some_low (to i) (ticking_to i) (cell_states p) (held_by p (to i)) (seen-to i) (piece_view p last vs i) (viewed_at i)
        ∙ reports-only-cells (weighting_of p.weighing) (held_automaton p) same_clocks p.high (cell_states p) p.low (next (weighting_of p.weighing) (held_automaton p) same_clocks p.high (cell_states p) (piece_view p last vs i) (held_by p (to i))) (meant (suc i))
        (only-cells (weighting_of p.weighing) (held_automaton p) same_clocks p.high (cell_states p) (λ _. piece_view p last vs i) (held_by p (to i)) (meant i) (holds-to i) 1)

    pub score-to : (i : ℕ) → score_of (report_in ground (view_in p last vs) (view_in p vs vs) t i) ≡ score_in (monitor.report_of p (meant (suc i)))
    score-to i = said_score (report_in ground (view_in p last vs) (view_in p vs vs) t i) ∙ ap score_in (report-found i)

    pub length-told : (i : ℕ) → length_of (report_in ground (view_in p last vs) (view_in p vs vs) t i) ≡ length_in (monitor.report_of p (meant (suc i)))
    length-told i = said_length (report_in ground (view_in p last vs) (view_in p vs vs) t i) ∙ ap length_in (report-found i)

    -- ---- a piece, told

    pub telling : (scores lengths d : ℕ) → d ≤ scores → d ≤ lengths → Telling (layout p) (view_in p last vs) (view_in p vs vs) t scores lengths d
    telling scores lengths d a b =
        record {
          first = known_gains (view_known vs fine last);
          later = known_gains (view_known vs fine vs);
          whole = whole;
          scores_long = a;
          lengths_long = b;
        }

    pub scores-told : (scores : List ℤ) (d : ℕ)
        → scores_to ground (view_in p last vs) (view_in p vs vs) t scores d ≡ map (λ i. score_in (monitor.report_of p (meant (suc i)))) (up_to d) ++ drop d scores
    unfolding scores_to
    scores-told scores d = ap (λ (f : ℕ → ℤ). map f (up_to d) ++ drop d scores) (fun_ext score-to)

    pub lengths-told : (lengths : List ℕ) (d : ℕ)
        → lengths_to ground (view_in p last vs) (view_in p vs vs) t lengths d ≡ map (λ i. length_in (monitor.report_of p (meant (suc i)))) (up_to d) ++ drop d lengths
    unfolding lengths_to
    lengths-told lengths d = ap (λ (f : ℕ → ℕ). map f (up_to d) ++ drop d lengths) (fun_ext length-told)

  -- ---- an opening

  pub open_written : (t : List ℤ) → cells_needed p ≤ length t → open_of (layout p) p.weighing (kind_flags false p) t ≡ written p (open_table p) t
  open_written t long =
      let e = cells_are p sound in
      let f : Filed t (layout p) = record { laid = laid p sound; inside = omega arith } in
      let past = open_leaves-further (layout p) p.weighing (kind_flags false p) t f in
      is-written p sound (open_table p) t (open_of (layout p) p.weighing (kind_flags false p) t) long past.0
      (λ i h. open_is-opening (layout p) p.weighing (kind_flags false p) p.edges p.edgecount (kind_flags true p) (held_automaton p) about same_clocks t f i (omega arith))
      (λ i h. past.1 i (omega arith))

  -- ---- cells that feeding does not refuse can be moved

  pub fine-whole : (t : List ℤ) → cells_needed p ≤ length t → all cell_fine (take (cells_needed p) t) ≡ true → Whole t (layout p)
  fine-whole t long h =
      let e = cells_are p sound in
      record {
        inside = omega arith;
        bounded = λ n i low row. ⊎_elim inl (λ k. inr (omega arith)) (fine-at p sound t long h (n * (layout p).row + i) (pos 0)
            (let a = row_next n (layout p).row in let b : (n + 1) * (layout p).row ≤ cells_in (layout p) = mul-le-mul_right (layout p).row (omega arith) in omega arith));
      }
