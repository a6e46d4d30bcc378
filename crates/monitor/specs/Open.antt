-- Opening (document 01, 'Open': 7; 11, a table shorter than the cells needed).
use Rattle.std.specs.Prelude.{ℕ, ◌≡◌, List, [], ◌∷◌, ◌++◌, Bool, not, cond, ◌||◌, ltb, length, drop, replicate, ℤ, Result, Ok, Err}
use Rattle.std.proofs.Math.Option.{Option, none, some}
use Rattle.weighting.specs.Cell.{mark}
use Rattle.pattern.specs.declared.Pattern.{Pattern}
use Rattle.pattern.specs.declared.Refusal.{Refusal}
use Rattle.pattern.specs.declared.Refusal.TheVariants.{UnsoundPattern, TableTooShort}
use Rattle.pattern.specs.Sound.{sound_of}
use Rattle.pattern.specs.Refusal.{number_of}
use Rattle.pattern.specs.Cells.{cells_needed}
use Rattle.monitor.specs.declared.State.{State}
use Rattle.monitor.specs.Cells.{written}
use Rattle.monitor.specs.Tick.{open_table}
use Rattle.monitor.specs.State.{no_ticks}

-- what a call answers: what it hands back, or the first cause that it gives
abbrev pub answer_of : {A : Type 0} → A → Option Refusal → Result A Refusal
answer_of a none = Ok a
answer_of a (some r) = Err r

-- The number of an answer: 0 when done, else the refusal's.
abbrev pub answer_number : {A : Type 0} → Result A Refusal → ℕ
answer_number (Ok a) = 0
answer_number (Err r) = number_of r

-- what something lent is afterwards: as it was at a refusal
abbrev pub unless_refused : {A : Type 0} → Option Refusal → A → A → A
unless_refused none after before = after
unless_refused (some r) after before = before

-- 11 holds for either table
abbrev pub table_too_short : Pattern → (first second : ℕ) → Bool
table_too_short p first second = ltb first (cells_needed p) || ltb second (cells_needed p)

-- Checks go in the order written, and the first cause decides.
abbrev pub first_cause : List (Bool × Refusal) → Option Refusal
first_cause [] = none
first_cause (c ∷ cs) = cond c.0 (some c.1) (first_cause cs)

-- by the lengths of the two tables
unfoldable pub open_refusal : Pattern → (first second : ℕ) → Option Refusal
open_refusal p first second =
    first_cause ((not (sound_of p), UnsoundPattern) ∷ (table_too_short p first second, TableTooShort) ∷ [])

abbrev pub open_answer : Pattern → (first second : List ℤ) → Result (Unit {0}) Refusal
open_answer p t u = answer_of (tt {0}) (open_refusal p (length t) (length u))

-- Opening writes the lent state: no ticks, zeros.
abbrev pub open_state : Pattern → (first second : List ℤ) → State → State
open_state p t u s = unless_refused (open_refusal p (length t) (length u)) no_ticks s

-- "Between calls the first table holds this": at each time a start place with length 0, stage 0 and clocks 0 holds the empty
-- run's worth, and after an opening no other cell holds a worth.
abbrev pub open_first : Pattern → (first second : List ℤ) → List ℤ
open_first p t u = unless_refused (open_refusal p (length t) (length u)) (written p (open_table p) t) t

-- "and the needed cells of the second are all marks; further cells are untouched"
abbrev pub marks : Pattern → List ℤ → List ℤ
marks p u = replicate (cells_needed p) mark ++ drop (cells_needed p) u

abbrev pub open_second : Pattern → (first second : List ℤ) → List ℤ
open_second p t u = unless_refused (open_refusal p (length t) (length u)) (marks p u) u

-- What is due, in document 01's numbers.
abbrev pub open_number : Pattern → (first second : List ℤ) → ℕ
open_number p t u = cond (not (sound_of p)) 7 (cond (table_too_short p (length t) (length u)) 11 0)

-- Theorem: the two agree.
abbrev pub OpenNumbers : Type 0
OpenNumbers = (p : Pattern) (t u : List ℤ) → answer_number (open_answer p t u) ≡ open_number p t u
