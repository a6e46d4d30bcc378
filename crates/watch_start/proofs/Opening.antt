-- From both texts to the start.
use Prim.Native.Nat.{ℕ, ◌-◌}
use native.Mathlib.Omega.{arith}
use mathlib.Core.Path.{◌≡◌, refl, sym, ap, subst, ◌∙◌}
use mathlib.Core.Logic.{inl}
use mathlib.Core.List.{List, [], ◌++◌}
use mathlib.Core.Option.{Option, none, some, none-ne-some}
use mathlib.Core.Bool.{Bool, true, false, cond, ◌||◌}
use lib.Dec.{ltb}
use lib.ListN.{length, take}
use lib.IntN.{ℤ}
use Rattle.std.specs.Prelude.{Result, Ok, Err}
use Rattle.pattern.specs.declared.Pattern.{Pattern}
use Rattle.pattern.specs.declared.Refusal.{Refusal}
use Rattle.pattern.specs.declared.Refusal.TheVariants.{TextTooLong, BrokenForm, TableTooShort}
use Rattle.pattern.specs.Sound.{sound_of}
use Rattle.pattern.specs.Cells.{cells_needed}
use Rattle.pattern_text.specs.Bytes.{Bytes}
use Rattle.pattern_text.specs.Form.{many, write_many}
use Rattle.pattern_text.specs.Text.{Answer, accepted, refused}
use Rattle.pattern_read.specs.Reading.{reading_of}
use Rattle.record.specs.Record.{Book, book_of, total}
use Rattle.record_text.specs.Piece.{RawPiece}
use Rattle.record_text.specs.Text.{record_form, render_record, read_record, durations_of, values_of, pieces_refusal, record_refusal}
use Rattle.record_read.specs.Check.{checked_of}
use Rattle.monitor.specs.Cells.{written}
use Rattle.monitor.specs.State.{no_ticks}
use Rattle.monitor.specs.Open.{answer_of, open_refusal, open_first, open_second}
use Rattle.best.specs.Best.{best_refusal, chosen_of}
use Rattle.best.specs.Search.{Fit, SearchedTo, table_to}
use Rattle.best.proofs.Whole.{fit, second_open}
use Rattle.watch_text.specs.Shown.{heading, rows_from, best_text, shown_for}
use Rattle.watch_steps.specs.declared.Watch.{Watch}
use Rattle.watch_steps.specs.Watch.{book_of_text, tables_refusal, unless_cause, refusal_for, answered_with}
use Rattle.watch_steps.specs.Steps.{rows_due, due_at, due_for, Underway, StandingAt, Standing, start_at, stage_by, start_with, start_watch, start_first, start_second}
use Rattle.watch_steps.proofs.Pieces.{book-is, record_sound_lem}

-- a text that is not refused is that of some pieces
no_form : (a : Bool) → cond a (some TextTooLong) (some BrokenForm) ≡ none → ⊥
no_form true e = none-ne-some TextTooLong (sym e)
no_form false e = none-ne-some BrokenForm (sym e)

pub pieces : (n : ℕ) (t : Bytes) → record_refusal n t ≡ none → (rs : List RawPiece) × (read_record t ≡ some rs)
unfolding record_refusal
pieces n t e = of (read_record t) refl
  where
    of : (o : Option (List RawPiece)) → read_record t ≡ o → (rs : List RawPiece) × (read_record t ≡ some rs)
    of none f = absurd (no_form (ltb 16_384 (length t)) (ap (λ (q : Option (List RawPiece)). cond (ltb 16_384 (length t)) (some TextTooLong) (pieces_refusal n q)) (sym f) ∙ e))
    of (some rs) f = (rs, f)

-- what `check` answers, by the cause
pub checked_sound : (o : Option Refusal) → ◌≡◌ {A = Result (Unit {0}) Refusal} (Ok tt) (checked_of o) → o ≡ none
checked_sound none e = refl
checked_sound (some r) e = cc

pub checked_refused : (o : Option Refusal) (r : Refusal) → ◌≡◌ {A = Result (Unit {0}) Refusal} (Err r) (checked_of o) → o ≡ some r
checked_refused none r e = cc
checked_refused (some q) r e = cc

-- what `read` answers
pub read-accepted : (a : Answer) (p : Pattern) → Ok p ≡ reading_of a → a ≡ accepted p
read-accepted (accepted q) p e = cc
read-accepted (refused r) p e = cc

pub read_refused : (a : Answer) (r : Refusal) → Err r ≡ reading_of a → a ≡ refused r
read_refused (accepted p) r e = cc
read_refused (refused q) r e = cc

-- what the opening answers, as a start
pub opened_start : (p : Pattern) (o : Option Refusal) → start_with p (answer_of no_ticks o) ≡ start_at (stage_by o) p no_ticks
opened_start p none = refl
opened_start p (some r) = refl

twice : {A : Type 0} (x : Bool) (a b : A) → cond (x || x) a b ≡ cond x a b
twice true a b = refl
twice false a b = refl

nothing_read : length (render_record []) ≡ 0
unfolding render_record record_form many write_many
nothing_read = refl

module _ (p : Pattern) (sound : sound_of p ≡ true) (first second : List ℤ) (longFirst : length first ≡ 2048) (longSecond : length second ≡ 2048) where
  -- tables of 2,048 cells
  pub tables : open_refusal p (length first) (length second) ≡ tables_refusal p
  unfolding open_refusal
  tables = rw (sound, longFirst, longSecond) (twice (ltb 2_048 (cells_needed p)) (some TableTooShort) none)

  module _ (t : Bytes) (fits : record_refusal p.channels t ≡ none) where
    abbrev B : Book
    B = book_of_text p.channels t

    -- what the opening gives is what the start is to give
    pub cause_is : open_refusal p (length first) (length second) ≡ refusal_for (accepted p) t
    cause_is = rw fits tables

    first_by : (o : Option Refusal) → open_refusal p (length first) (length second) ≡ o → open_first p first second ≡ start_first (accepted p) t first second
    first_by none e = rw (fits, sym tables ∙ e)
    first_by (some r) e = rw (fits, e, sym tables ∙ e)

    second-by : (o : Option Refusal) → open_refusal p (length first) (length second) ≡ o → open_second p first second ≡ start_second (accepted p) t first second
    second-by none e = rw (fits, sym tables ∙ e)
    second-by (some r) e = rw (fits, e, sym tables ∙ e)

    pub opened_first_lem : open_first p first second ≡ start_first (accepted p) t first second
    opened_first_lem = first_by _ refl

    pub opened_second_lem : open_second p first second ≡ start_second (accepted p) t first second
    opened_second_lem = second-by _ refl

    abbrev W : Watch
    W = start_watch (accepted p) t

    -- nothing refused: the monitor stands before the first piece
    module _ (e : open_refusal p (length first) (length second) ≡ none) where
      abbrev rs : List RawPiece
      rs = (pieces p.channels t fits).0

      reads : read_record t ≡ some rs
      reads = (pieces p.channels t fits).1

      none_given : best_refusal p (durations_of rs) (values_of rs) (length first) (length second) ≡ none
      unfolding best_refusal open_refusal
      none_given = rw (record_sound_lem p.channels t rs reads fits) e

      opens : Fit p (durations_of rs) (values_of rs) 0 W.search (open_first p first second)
      opens = fit p (durations_of rs) (values_of rs) first second none_given W.search refl refl

      no_total : total (durations_of []) ≡ 0
      unfolding durations_of total
      no_total = refl

      from_zero : total (take 0 (durations_of rs)) ≡ W.search.state.ticks
      unfolding total
      from_zero = refl

      book : B ≡ book_of p.channels (durations_of rs) (values_of rs)
      book = book-is p.channels t rs reads

      under : Underway p t W.cursor W.search (open_first p first second) (open_second p first second)
      under =
          record {
            sound = sound;
            fits = fits;
            position =
                record { read = []; further = rs; reads = reads; at = sym nothing_read; ticks = sym no_total; now = inl refl };
            searched = subst (λ (w : Book). SearchedTo p w W.search.state.ticks W.search) (sym book) (subst (λ (m : ℕ). SearchedTo p (book_of p.channels (durations_of rs) (values_of rs)) m W.search) from_zero opens.searched);
            first_long = opens.first_long;
            second_long = (second_open p (durations_of rs) (values_of rs) first second none_given).0;
            first_holds =
                subst (λ (w : Book). open_first p first second ≡ written p (table_to p w W.search.state.ticks) (open_first p first second)) (sym book)
                (subst (λ (m : ℕ). open_first p first second ≡ written p (table_to p (book_of p.channels (durations_of rs) (values_of rs)) m) (open_first p first second)) from_zero opens.first);
            second_holds = (second_open p (durations_of rs) (values_of rs) first second none_given).1;
          }

    opened_standing : (o : Option Refusal) → open_refusal p (length first) (length second) ≡ o → StandingAt (stage_by o) t W (open_first p first second) (open_second p first second)
    opened_standing none e = under e
    opened_standing (some r) e = tt

    sound-stands : Standing t W (start_first (accepted p) t first second) (start_second (accepted p) t first second)
    sound-stands =
        subst (λ (f : List ℤ). Standing t W f (start_second (accepted p) t first second)) opened_first_lem
        (subst (λ (s : List ℤ). Standing t W (open_first p first second) s) opened_second_lem
        (subst (λ (o : Option Refusal). StandingAt (stage_by o) t W (open_first p first second) (open_second p first second)) cause_is (opened_standing _ refl)))

-- ---- the start, by the answer to the pattern's text

module _ (t : Bytes) (first second : List ℤ) (longFirst : length first ≡ 2048) (longSecond : length second ≡ 2048) where
  pub start-stands : (a : Answer) → ((p : Pattern) → a ≡ accepted p → sound_of p ≡ true) → Standing t (start_watch a t) (start_first a t first second) (start_second a t first second)
  start-stands (refused r) sound = tt
  start-stands (accepted p) sound = by (record_refusal p.channels t) refl
    where
      by : (o : Option Refusal) → record_refusal p.channels t ≡ o → Standing t (start_watch (accepted p) t) (start_first (accepted p) t first second) (start_second (accepted p) t first second)
      by none e = sound-stands p (sound p refl) first second longFirst longSecond t e
      by (some r) e = rw e tt

-- what is due at the start
whole : (p : Pattern) (b : Book) → heading ++ rows_due p b 0 ≡ shown_for p b
unfolding rows_due shown_for
whole p b = let z : length b - 0 ≡ length b = omega arith in ap (λ (m : ℕ). heading ++ (rows_from p b 0 m ++ best_text (chosen_of p b))) z

due_by : (p : Pattern) (b : Book) (o : Option Refusal) → due_at (stage_by o) p b 0 ≡ unless_cause o (shown_for p b)
due_by p b none = whole p b
due_by p b (some r) = refl

pub start_due : (a : Answer) (t : Bytes) → due_for t (start_watch a t) ≡ answered_with a t
start_due (refused r) t = refl
start_due (accepted p) t = due_by p (book_of_text p.channels t) (refusal_for (accepted p) t)
