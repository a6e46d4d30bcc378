-- A line of a record text, with numbers held so that they fit their types; and the piece whose line begins at a position.
use Rattle.std.specs.Prelude.{ℕ, ◌-◌, min, List, map, true, length, take, drop, replicate, ℤ, pos}
use Rattle.pattern.specs.Slots.{all}
use Rattle.pattern_text.specs.Bytes.{Bytes, Reading, got, broken}
use Rattle.pattern_text.specs.Form.{◌◂◌}
use Rattle.pattern_text.specs.Text.{pad}
use Rattle.text_scan.specs.Scan.{held_integer}
use Rattle.line_lists.specs.declared.Parts.{Parts}
use Rattle.record.specs.Record.{value_in_range}
use Rattle.record_text.specs.Piece.{RawPiece, values_in, piece_line}
use Rattle.record_read.specs.declared.Value.{Value}
use Rattle.record_read.specs.declared.PieceRead.{PieceRead}
use Rattle.record_read.specs.declared.PieceLine.{PieceLine}

-- above every duration, and every total of durations, that a record may have
abbrev pub limit : ℕ
limit = 2_147_483_648

-- the first eight values, zeros where there are fewer
abbrev pub kept_values : List ℤ → List ℤ
kept_values vs = pad 8 (pos 0) (take 8 (map held_integer vs))

-- a value, held, and the one that stands where there is none
abbrev pub held_value : ℤ → Value
held_value v = record { 0 = held_integer v }

abbrev pub no_value : Value
no_value = record { 0 = pos 0 }

-- some values: the first eight, how many, whether all are in range
unfoldable pub gathered_values : List ℤ → Parts Value 8
gathered_values vs = record { parts = map (λ v. record { 0 = v }) (kept_values vs); count = min 256 (length vs); in_range = all value_in_range vs; known = true }

-- a piece's line
abbrev pub held_line : RawPiece → PieceLine
held_line p = record { duration = min limit p.duration; values = gathered_values (values_in p) }

-- where the rest of a text begins
abbrev pub end_of : Bytes → Bytes → ℕ
end_of t r = length t - length r

-- its piece; nothing, up to the text's end, where there is no line
abbrev pub piece_in : Bytes → Reading RawPiece → PieceRead
piece_in t (got p r) = record { duration = min limit p.duration; values = kept_values (values_in p); next = end_of t r }
piece_in t broken = record { duration = 0; values = replicate 8 (pos 0); next = length t }

unfoldable pub piece_at : Bytes → ℕ → PieceRead
piece_at t at = piece_in t ((piece_line ◂ "\n").read (drop at t))
