-- What holds between the calls of a list: the state and the tables are those of the book.
use Prim.Native.Nat.{ℕ, zero, suc, ◌+◌, ◌-◌, ◌≤◌, ◌<◌}
use native.Mathlib.Omega.{arith}
use mathlib.Core.Path.{◌≡◌, refl, sym, ap, subst, ◌∙◌}
use mathlib.Core.List.{List, [], ◌∷◌, ◌++◌, Memᴰ}
use mathlib.Core.Option.{none, some}
use mathlib.Core.Bool.{Bool, true, false, not, ◌||◌, or-true}
use borrow.Author.Tests.{ltb-true, ltb-false, le-leb, le-ltb, ne_eqb}
use lib.Dec.{eqb, leb, ltb}
use lib.ListN.{length, take, drop, replicate, length-append, length-replicate, get_or-eq_default}
use lib.Seq.{take_at, drop_at}
use lib.IntN.{ℤ, pos, nat_abs}
use Rattle.weighting.proofs.Weightings.{weighting_of}
use Rattle.weighting.specs.Cell.{mark}
use Rattle.weighting.proofs.Cell.{NoMark}
use Rattle.pattern.specs.declared.Pattern.{Pattern}
use Rattle.pattern.specs.declared.Refusal.{Refusal}
use Rattle.pattern.specs.declared.Refusal.TheVariants.{BrokenRecord, TooManyTicks, OutputTooShort}
use Rattle.pattern.specs.Slots.{all}
use Rattle.pattern.specs.Sound.{is_null, sound_of}
use Rattle.pattern.specs.Clocks.{Clocks}
use Rattle.pattern.specs.Cells.{cells_needed}
use Rattle.pattern.specs.Distance.{Sample}
use Rattle.pattern.proofs.SoundLaws.{parts}
use Rattle.pattern.proofs.SlotLaws.{all_append}
use Rattle.record.specs.Record.{Book, value_in_range}
use Rattle.walks.specs.Automaton.{State as Place}
use Rattle.walks.specs.Tables.{Table}
use Rattle.walks.proofs.Cut.{cut, only-passed, only-cells}
use Rattle.book.specs.View.{sample_at, before, view_of}
use Rattle.book.specs.Automaton.{same_clocks, held_automaton}
use Rattle.monitor.specs.declared.State.{State}
use Rattle.monitor.specs.Cells.{cell_states, held_by, written}
use Rattle.monitor.specs.Tick.{open_table, ticks_later}
use Rattle.monitor.specs.State.{last_sample, state_sound, piece_later}
use Rattle.monitor.specs.Open.{marks}
use Rattle.monitor.specs.Feed.{Call, piece_broken, too_many_ticks, reports_too_short, feed_cause, feed_refusal, piece_view, table_after}
use Rattle.monitor.specs.Demand.{refusal_by}
use Rattle.monitor.proofs.CellLaws.{Celled, of_cells, in_cells}
use Rattle.monitor.proofs.Sizes.{table_sized, sized_low}
use Rattle.monitor.proofs.Written.{held-written, written-length, marks-length, cells-fine}
use Rattle.monitor.proofs.Accepted.{no_cause, neither, whole}
use Rattle.monitor.proofs.PieceViews.{sample-front, view_front, longer, sample-new, view_new, before-end}

-- a sample as an accepted piece has it
abbrev pub Fine : Pattern → Sample → Type 0
Fine p x = (length x ≡ p.channels) × (all value_in_range x ≡ true)

-- the table that the book's ticks make
abbrev pub book_table : Pattern → Book → Table ℤ Clocks
book_table p b = ticks_later p (view_of p b) (open_table p) (length b)

pub record Between (p : Pattern) (b : Book) (s : State) (t u : List ℤ) : Type 0 where
  pub sound : sound_of p ≡ true
  pub ticks : s.ticks ≡ length b
  pub few : length b ≤ 2147483647
  pub fine : (i : ℕ) → i < length b → Fine p (sample_at b i)
  pub last : s.last ≡ before p b (length b) ++ replicate (8 - p.channels) (pos 0)
  pub first_long : cells_needed p ≤ length t
  pub second_long : cells_needed p ≤ length u
  pub holds : (x : Place Clocks) → Memᴰ x (cell_states p) → held_by p t x ≡ book_table p b x

-- ---- lists of zeros

zeros_null : (n : ℕ) → all is_null (replicate n (pos 0)) ≡ true
zeros_null zero = refl
zeros_null (suc n) = zeros_null n

zeros-fine : (n : ℕ) → all value_in_range (replicate n (pos 0)) ≡ true
zeros-fine zero = refl
zeros-fine (suc n) = zeros-fine n

-- every sample of a fine book, and past its end nothing, is in range
pub all-fine : (p : Pattern) (b : Book) → ((i : ℕ) → i < length b → Fine p (sample_at b i)) → (i : ℕ) → all value_in_range (sample_at b i) ≡ true
all-fine p b h i = by (ltb i (length b)) refl
  where
    by : (x : Bool) → ltb i (length b) ≡ x → all value_in_range (sample_at b i) ≡ true
    by true e = (h i (ltb-true i (length b) e)).1
    by false e = rw (get_or-eq_default b [] {n = i} (ltb-false i (length b) e))

mark-far : nat_abs mark ≤ 32760000000 → ⊥
mark-far l = omega arith

module _ (p : Pattern) (sound : sound_of p ≡ true) (b : Book) (fine : (i : ℕ) → i < length b → Fine p (sample_at b i)) where
  -- what a cell of a fine book's table holds is within the limit, and so no mark
  pub cell-low : (n : ℕ) (x : Place Clocks) (z : ℤ) → Memᴰ x (cell_states p) → ticks_later p (view_of p b) (open_table p) n x ≡ some z → nat_abs z ≤ 32760000000
  cell-low n x z m e =
      sized_low p.weighing x.len z (let a = (of_cells p sound x m).low in let c = (parts p sound).short_high in omega arith)
      (table_sized p sound b (all-fine p b fine) n x z m e)

  pub cell_no_mark : (n : ℕ) (x : Place Clocks) → Memᴰ x (cell_states p) → NoMark (ticks_later p (view_of p b) (open_table p) n x)
  cell_no_mark n x m e = mark-far (cell-low n x mark m e)

module _ (p : Pattern) (b : Book) (s : State) (t u : List ℤ) (h : Between p b s t u) where
  -- the values before the next tick
  pub before-fine : Fine p (before p b (length b))
  unfolding before
  before-fine = by (length b) refl
    where
      by : (n : ℕ) → length b ≡ n → Fine p (before p b n)
      by zero e = (length-replicate p.channels (pos 0), zeros-fine p.channels)
      by (suc n) e = h.fine n (omega arith)

  pub last-is : last_sample p s ≡ before p b (length b)
  last-is = ap (take p.channels) h.last ∙ take_at (before p b (length b)) (replicate (8 - p.channels) (pos 0)) p.channels before-fine.0

  pub rest-is : drop p.channels s.last ≡ replicate (8 - p.channels) (pos 0)
  rest-is = ap (drop p.channels) h.last ∙ drop_at (before p b (length b)) (replicate (8 - p.channels) (pos 0)) p.channels before-fine.0

  -- ---- no other cause can arise

  zeros_due : not (eqb s.ticks 0) || all is_null s.last ≡ true
  unfolding before
  zeros_due = by (length b) refl
    where
      by : (n : ℕ) → length b ≡ n → not (eqb s.ticks 0) || all is_null s.last ≡ true
      by zero e =
          let z : all is_null s.last ≡ true =
          ap (all is_null) (h.last ∙ ap (λ (n : ℕ). before p b n ++ replicate (8 - p.channels) (pos 0)) e)
          ∙ all_append is_null (replicate p.channels (pos 0)) (replicate (8 - p.channels) (pos 0))
          ∙ rw (zeros_null p.channels, zeros_null (8 - p.channels)) in
          rw z (or-true (not (eqb s.ticks 0)))
      by (suc n) e = let q = h.ticks in let no : s.ticks ≡ 0 → ⊥ = λ x. omega arith in rw (ne_eqb s.ticks 0 no)

  state-fine : state_sound p s ≡ true
  unfolding state_sound
  state-fine =
      let few : leb s.ticks 2147483647 ≡ true = le-leb s.ticks 2147483647 (let q = h.ticks in let f = h.few in omega arith) in
      let values : all value_in_range (take p.channels s.last) ≡ true = ap (all value_in_range) last-is ∙ before-fine.1 in
      let rest : all is_null (drop p.channels s.last) ≡ true = ap (all is_null) rest-is ∙ zeros_null (8 - p.channels) in
      rw (few, values, rest) zeros_due

  table-low : (x : Place Clocks) (z : ℤ) → Celled p h.sound x → held_by p t x ≡ some z → nat_abs z ≤ 32760000000
  table-low x z k e =
      let m = in_cells p h.sound x k in
      cell-low p h.sound b h.fine (length b) x z m (sym (h.holds x m) ∙ e)

  pub refusal_is : (c : Call) → feed_refusal p s t u c ≡ refusal_by p b c
  unfolding feed_cause refusal_by
  refusal_is c =
      rw (h.sound, state-fine, le-ltb (length t) (cells_needed p) h.first_long, le-ltb (length u) (cells_needed p) h.second_long, h.ticks, cells-fine p h.sound t h.first_long table-low)

  -- ---- a piece more

  module _ (c : Call) (accepted : refusal_by p b c ≡ none) where
    -- an accepted piece is whole, its values are in range, and there is room
    pub record Piece : Type 0 where
      pub some : 1 ≤ c.duration
      pub values : Fine p c.values
      pub room : length b + c.duration ≤ 2147483647
      pub scores : c.duration ≤ length c.scores
      pub lengths : c.duration ≤ length c.lengths

    pub piece : Piece
    unfolding refusal_by
    piece =
        let third : List (Bool × Refusal) = (reports_too_short (length c.scores) (length c.lengths) c.duration, OutputTooShort) ∷ [] in
        let one = no_cause (piece_broken p c.duration c.values) BrokenRecord ((too_many_ticks (length b) c.duration, TooManyTicks) ∷ third) accepted in
        let two = no_cause (too_many_ticks (length b) c.duration) TooManyTicks third one.1 in
        let three = no_cause (reports_too_short (length c.scores) (length c.lengths) c.duration) OutputTooShort [] two.1 in
        let w = whole p c.duration c.values one.0 in
        let slices = neither (ltb (length c.scores) c.duration) (ltb (length c.lengths) c.duration) three.0 in
        record {
          some = w.low;
          values = (w.count, w.values);
          room = ltb-false 2147483647 (length b + c.duration) two.0;
          scores = ltb-false (length c.scores) c.duration slices.0;
          lengths = ltb-false (length c.lengths) c.duration slices.1;
        }

    -- the book with the piece
    abbrev pub next : Book
    next = longer p b c.duration c.values

    abbrev d : ℕ
    d = c.duration

    pub next-length : length next ≡ length b + d
    next-length = length-append b (replicate d c.values) ∙ ap (λ (n : ℕ). length b + n) (length-replicate d c.values)

    -- the table n ticks into the piece is the book's
    pub ticks-in : (n : ℕ) → n ≤ d → (x : Place Clocks) → Memᴰ x (cell_states p) → table_after p s t c.values n x ≡ ticks_later p (view_of p next) (open_table p) (length b + n) x
    ticks-in n l x m =
        let 𝓦 = weighting_of p.weighing in
        let A = held_automaton p in
        let old : book_table p b ≡ ticks_later p (view_of p next) (open_table p) (length b) =
        only-passed 𝓦 A same_clocks p.high (cell_states p) (view_of p b) (view_of p next) (open_table p) (length b) (λ i f k q. sym (view_front p b (replicate d c.values) i f k q)) in
        let same : (y : Place Clocks) → Memᴰ y (cell_states p) → held_by p t y ≡ ticks_later p (view_of p next) (open_table p) (length b) y =
        λ y i. h.holds y i ∙ ap (λ (U : Table ℤ Clocks). U y) old in
        only-cells 𝓦 A same_clocks p.high (cell_states p) (piece_view p (last_sample p s) c.values) (held_by p t) (ticks_later p (view_of p next) (open_table p) (length b)) same n x m
        ∙ ap (λ (U : Table ℤ Clocks). U x) (sym (cut 𝓦 A same_clocks p.high (cell_states p) (view_of p next) (piece_view p (last_sample p s) c.values) (open_table p) (length b) n
        (λ j f k q. rw last-is (view_new p b d c.values j f k (omega arith)))))

    pub next-fine : (i : ℕ) → i < length next → Fine p (sample_at next i)
    next-fine i l = by (ltb i (length b)) refl
      where
        by : (x : Bool) → ltb i (length b) ≡ x → Fine p (sample_at next i)
        by true e = let k = ltb-true i (length b) e in rw (sample-front p b (replicate d c.values) i k) (h.fine i k)
        by false e =
            let k = ltb-false i (length b) e in
            let q = next-length in
            let z : length b + (i - length b) ≡ i = omega arith in
            subst (λ (j : ℕ). Fine p (sample_at next j)) z (rw (sample-new p b d c.values (i - length b) (omega arith)) piece.values)

    -- what holds after the call
    pub go_on_lem : Between p next (piece_later p s d c.values) (written p (table_after p s t c.values d) t) (marks p u)
    go_on_lem =
        record {
          sound = h.sound;
          ticks = ap (λ (n : ℕ). n + d) h.ticks ∙ sym next-length;
          few = let q = next-length in let r = piece.room in omega arith;
          fine = next-fine;
          last = rw (rest-is, next-length, before-end p b d c.values piece.some);
          first_long = let e = written-length p h.sound (table_after p s t c.values d) t h.first_long in let l = h.first_long in omega arith;
          second_long = let e = marks-length p h.sound u h.second_long in let l = h.second_long in omega arith;
          holds = λ x m. held x m;
        }
      where
        held : (x : Place Clocks) → Memᴰ x (cell_states p) → held_by p (written p (table_after p s t c.values d) t) x ≡ book_table p next x
        held x m =
            let is = ticks-in d (omega arith) x m in
            held-written p h.sound (table_after p s t c.values d) t x (of_cells p h.sound x m) (λ e. cell_no_mark p h.sound next next-fine (length b + d) x m (sym is ∙ e))
            ∙ is
            ∙ ap (λ (n : ℕ). ticks_later p (view_of p next) (open_table p) n x) (sym next-length)
