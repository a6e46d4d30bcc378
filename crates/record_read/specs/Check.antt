-- What `check` answers, and its walk from line to line.
use Rattle.std.specs.Prelude.{ℕ, ◌+◌, min, ◌≡◌, List, Bool, cond, ◌&&◌, eqb, leb, ltb, length, Result, Ok, Err}
use Rattle.std.proofs.Math.Option.{Option, none, some}
use Rattle.pattern.specs.declared.Refusal.{Refusal}
use Rattle.pattern.specs.Refusal.{number_of}
use Rattle.pattern_text.specs.Bytes.{Bytes}
use Rattle.record_text.specs.Piece.{RawPiece}
use Rattle.record_text.specs.Text.{read_record, pieces_sound, record_refusal}
use Rattle.record_read.specs.declared.PieceLine.{PieceLine}
use Rattle.record_read.specs.declared.Walk.{Walk}
use Rattle.record_read.specs.Line.{limit}

-- the answer by its cause
abbrev pub checked_of : Option Refusal → Result (Unit {0}) Refusal
checked_of none = Ok tt
checked_of (some r) = Err r

-- What an answer says: the refusal's number, 0 if there is none.
abbrev pub checked_as : Result (Unit {0}) Refusal → ℕ
checked_as (Ok x) = 0
checked_as (Err r) = number_of r

-- What is due, in document 01's numbers: 1 for over 16,384 bytes; 2 for a broken form; 8 for pieces that break a rule.
abbrev pub pieces_number : (channels : ℕ) → Option (List RawPiece) → ℕ
pieces_number n none = 2
pieces_number n (some rs) = cond (pieces_sound n rs) 0 8

abbrev pub check_number : (channels : ℕ) → Bytes → ℕ
check_number n t = cond (ltb 16_384 (length t)) 1 (pieces_number n (read_record t))

-- Theorem: the two agree.
abbrev pub CheckNumbers : Type 0
CheckNumbers = (channels : ℕ) (t : Bytes) → checked_as (checked_of (record_refusal channels t)) ≡ check_number channels t

-- ---- the walk, for the contracts of the functions below `check`

-- "a duration of at least 1 tick and one value per channel, -1,000,000 to 1,000,000"
unfoldable pub line_sound : (channels : ℕ) → PieceLine → Bool
line_sound n l = leb 1 l.duration && l.values.in_range && eqb l.values.count n

-- one line more
abbrev pub turned : (channels : ℕ) → Walk → PieceLine → Walk
turned n s l = record { sound = s.sound && line_sound n l; ticks = min limit (s.ticks + l.duration) }
