-- A record's text: what it is read as, and what it is refused for (document 01, 'The watch program').
use Rattle.std.specs.Prelude.{ℕ, List, [], ◌∷◌, ◌++◌, map, Bool, cond, ◌&&◌, eqb, ltb, length, ℤ}
use Rattle.std.proofs.Math.Option.{Option, none, some}
use Rattle.pattern.specs.declared.Refusal.{Refusal}
use Rattle.pattern.specs.declared.Refusal.TheVariants.{TextTooLong, BrokenForm, BrokenRecord}
use Rattle.pattern.specs.Slots.{all}
use Rattle.pattern_text.specs.Bytes.{Bytes}
use Rattle.pattern_text.specs.Form.{Form, ◌◂◌, many}
use Rattle.pattern_text.specs.Line.{whole}
use Rattle.record.specs.Record.{record_sound}
use Rattle.record_text.specs.Piece.{RawPiece, values_in, piece_line}

-- ---- the form

-- lines, each ended by a line feed; "an empty record has no pieces"
unfoldable pub record_form : Form (List RawPiece)
record_form = many (piece_line ◂ "\n")

-- the text of some pieces
unfoldable pub render_record : List RawPiece → Bytes
render_record rs = record_form.write rs

-- the pieces of a text, if it has the form to its end
unfoldable pub read_record : Bytes → Option (List RawPiece)
read_record t = whole (record_form.read t)

-- ---- the record that the pieces are, as record/specs/Record takes one

-- the durations
unfoldable pub durations_of : List RawPiece → List ℕ
durations_of rs = map (λ r. r.duration) rs

-- the values, piece by piece
unfoldable pub values_of : List RawPiece → List ℤ
values_of [] = []
values_of (r ∷ rs) = values_in r ++ values_of rs

-- ---- what a text is refused for

-- "one value per channel"
unfoldable pub counts_fit : (channels : ℕ) → List RawPiece → Bool
counts_fit n rs = all (λ r. eqb (length (values_in r)) n) rs

-- each piece has its values, and the record keeps its rules
unfoldable pub pieces_sound : (channels : ℕ) → List RawPiece → Bool
pieces_sound n rs = counts_fit n rs && record_sound n (durations_of rs) (values_of rs)

-- "a broken form anywhere 2, then 8, a wrong count of values included"
abbrev pub pieces_refusal : (channels : ℕ) → Option (List RawPiece) → Option Refusal
pieces_refusal n none = some BrokenForm
pieces_refusal n (some rs) = cond (pieces_sound n rs) none (some BrokenRecord)

-- "over 16,384 bytes is 1", before all else; none if the text is not refused
unfoldable pub record_refusal : (channels : ℕ) → Bytes → Option Refusal
record_refusal n t = cond (ltb 16_384 (length t)) (some TextTooLong) (pieces_refusal n (read_record t))
