-- Best of a record (document 01, 'Best of a record').
use Rattle.std.specs.Prelude.{ℕ, zero, suc, ◌-◌, List, [], ◌∷◌, not, cond, length, ℤ, Option as Maybe, Some, None, Result, Ok, Err}
use Rattle.std.proofs.Math.Option.{Option, none, some}
use Rattle.weighting.proofs.Weightings.{weighting_of}
use Rattle.pattern.specs.declared.Pattern.{Pattern}
use Rattle.pattern.specs.declared.Refusal.{Refusal}
use Rattle.pattern.specs.declared.Refusal.TheVariants.{UnsoundPattern, BrokenRecord, TableTooShort}
use Rattle.pattern.specs.Sound.{sound_of}
use Rattle.pattern.specs.Refusal.{number_of}
use Rattle.record.specs.Record.{Book, record_sound, book_of}
use Rattle.book.specs.View.{view_of}
use Rattle.monitor.specs.Cells.{written}
use Rattle.monitor.specs.Tick.{open_table, ticks_later, report_of, score_in, length_in}
use Rattle.monitor.specs.Open.{answer_of, first_cause, unless_refused, table_too_short, marks}
use Rattle.best.specs.declared.Run.{Run}

-- A run's end, length and score.
pub record Chosen : Type 0 where
  pub end : ℕ
  pub len : ℕ
  pub score : ℤ

-- One end more, with its report; "length 0 .. means no run". "Among equals the earliest end": a later one is chosen only if
-- its score is better. The report of an end is the shortest of its best already.
unfoldable pub chosen_with : Pattern → Option Chosen → (end : ℕ) → (score : ℤ) → (len : ℕ) → Option Chosen
chosen_with p o end score zero = o
chosen_with p none end score (suc len) = some (record { end = end; len = suc len; score = score })
chosen_with p (some f) end score (suc len) =
    cond ((weighting_of p.weighing).order.at_least f.score score)
    (some f)
    (some (record { end = end; len = suc len; score = score }))

-- Demand 3's report at an end of a book.
abbrev pub score_at : Pattern → Book → (end : ℕ) → ℤ
score_at p b end = score_in (report_of p (ticks_later p (view_of p b) (open_table p) end))

abbrev pub length_at : Pattern → Book → (end : ℕ) → ℕ
length_at p b end = length_in (report_of p (ticks_later p (view_of p b) (open_table p) end))

-- "the best .. over the ends of demand 3", here over the ends 1 to n
unfoldable pub chosen_to : Pattern → Book → (n : ℕ) → Option Chosen
chosen_to p b zero = none
chosen_to p b (suc n) = chosen_with p (chosen_to p b n) (suc n) (score_at p b (suc n)) (length_at p b (suc n))

abbrev pub chosen_of : Pattern → Book → Option Chosen
chosen_of p b = chosen_to p b (length b)

-- ---- the operation

-- "7, 8, then 11", by the lengths of the two tables
unfoldable pub best_refusal : Pattern → (durations : List ℕ) → (values : List ℤ) → (first second : ℕ) → Option Refusal
best_refusal p ds vs first second =
    first_cause
    ((not (sound_of p), UnsoundPattern)
    ∷ (not (record_sound p.channels ds vs), BrokenRecord)
    ∷ (table_too_short p first second, TableTooShort)
    ∷ [])

-- "the best end, begin and score .., or none"; the begin is the end less the length
abbrev pub run_of : Option Chosen → Maybe Run
run_of none = None
run_of (some f) = Some (record { end = f.end; begin = f.end - f.len; score = f.score })

abbrev pub best_of : Pattern → (durations : List ℕ) → (values : List ℤ) → (first second : List ℤ) → Result (Maybe Run) Refusal
best_of p ds vs t u = answer_of (run_of (chosen_of p (book_of p.channels ds vs))) (best_refusal p ds vs (length t) (length u))

-- What an answer says: the refusal's number (0 if there is none), and the end, begin and score; none of them beside a refusal,
-- and none without a run.
abbrev pub found_as : Result (Maybe Run) Refusal → ℕ × Option (ℕ × ℕ × ℤ)
found_as (Ok (Some r)) = (0, some (r.end, r.begin, r.score))
found_as (Ok None) = (0, none)
found_as (Err r) = (number_of r, none)

abbrev pub chosen_as : Option Chosen → Option (ℕ × ℕ × ℤ)
chosen_as none = none
chosen_as (some f) = some (f.end, f.end - f.len, f.score)

-- What is due, in document 01's numbers.
abbrev pub best_numbers : Pattern → (durations : List ℕ) → (values : List ℤ) → (first second : List ℤ) → ℕ × Option (ℕ × ℕ × ℤ)
best_numbers p ds vs t u =
    cond (not (sound_of p)) (7, none)
    (cond (not (record_sound p.channels ds vs)) (8, none)
    (cond (table_too_short p (length t) (length u)) (11, none) (0, chosen_as (chosen_of p (book_of p.channels ds vs)))))

-- "The tables are left as opening and then feeding the whole record leaves them": the table after all ticks, and marks.
abbrev pub best_first : Pattern → (durations : List ℕ) → (values : List ℤ) → (first second : List ℤ) → List ℤ
best_first p ds vs t u =
    unless_refused (best_refusal p ds vs (length t) (length u))
    (written p (ticks_later p (view_of p (book_of p.channels ds vs)) (open_table p) (length (book_of p.channels ds vs))) t)
    t

abbrev pub best_second : Pattern → (durations : List ℕ) → (values : List ℤ) → (first second : List ℤ) → List ℤ
best_second p ds vs t u = unless_refused (best_refusal p ds vs (length t) (length u)) (marks p u) u
