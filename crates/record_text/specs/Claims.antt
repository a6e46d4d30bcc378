-- What is proved of a record's text. The proofs are in proofs/.
use Rattle.std.specs.Prelude.{ℕ, ◌≤◌, ◌<◌, ◌≡◌, ◌↔◌, ◌⊎◌, true, false, List, map, length}
use Rattle.std.proofs.Math.Option.{Option, none, some}
use Rattle.pattern.specs.declared.Refusal.{Refusal}
use Rattle.pattern.specs.declared.Refusal.TheVariants.{TextTooLong, BrokenForm, BrokenRecord}
use Rattle.pattern.specs.Refusal.{number_of}
use Rattle.pattern_text.specs.Bytes.{Bytes}
use Rattle.record.specs.Record.{Piece, pieces_of}
use Rattle.record_text.specs.Piece.{RawPiece, values_in}
use Rattle.record_text.specs.Text.{render_record, read_record, durations_of, values_of, counts_fit, pieces_sound, record_refusal}

-- A text says rs exactly if it is the text of rs.
abbrev pub RecordsExact : Type 0
RecordsExact = (t : Bytes) (rs : List RawPiece) → (read_record t ≡ some rs) ↔ (t ≡ render_record rs)

-- which refusal is due to a text, and for which cause
pub data Outcome (channels : ℕ) (t : Bytes) : Option Refusal → Type 0 where
  -- over 16,384 bytes
  long : 16_384 < length t → Outcome channels t (some TextTooLong)
  -- the text of no pieces whatever
  formless : length t ≤ 16_384 → ((rs : List RawPiece) → t ≡ render_record rs → ⊥) → Outcome channels t (some BrokenForm)
  -- the text of pieces that break a rule
  unsound : (rs : List RawPiece) → length t ≤ 16_384 → t ≡ render_record rs → pieces_sound channels rs ≡ false → Outcome channels t (some BrokenRecord)
  -- the text of a record
  sound : (rs : List RawPiece) → length t ≤ 16_384 → t ≡ render_record rs → pieces_sound channels rs ≡ true → Outcome channels t none

-- Every text has exactly one answer, the one of its outcome.
abbrev pub RefusalsExact : Type 0
RefusalsExact = (channels : ℕ) (t : Bytes) (o : Option Refusal) → (record_refusal channels t ≡ o) ↔ Outcome channels t o

-- A text is refused for one of the causes 1, 2 and 8.
abbrev pub RefusalNumbers : Type 0
RefusalNumbers = (channels : ℕ) (t : Bytes) (r : Refusal) → record_refusal channels t ≡ some r → (number_of r ≡ 1) ⊎ (number_of r ≡ 2) ⊎ (number_of r ≡ 8)

-- a line's piece
abbrev pub piece_of : RawPiece → Piece
piece_of r = record { duration = r.duration; sample = values_in r }

-- The record that is made of the lines has a piece for each line, with the line's duration and values.
abbrev pub LinesArePieces : Type 0
LinesArePieces = (channels : ℕ) (rs : List RawPiece) → counts_fit channels rs ≡ true → pieces_of channels (durations_of rs) (values_of rs) ≡ map piece_of rs
