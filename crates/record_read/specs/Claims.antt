-- What is proved of walking a text that was checked. The proofs are in proofs/.
use Rattle.std.specs.Prelude.{ℕ, ◌≤◌, ◌<◌, ◌≡◌, ◌↔◌, List, [], ◌∷◌, ◌++◌, length, pos}
use Rattle.std.proofs.Math.Option.{none, some}
use Rattle.pattern_text.specs.Bytes.{Bytes}
use Rattle.pattern_text.specs.Text.{pad}
use Rattle.record_text.specs.Piece.{RawPiece, values_in}
use Rattle.record_text.specs.Text.{render_record, read_record, record_refusal}
use Rattle.record_read.specs.Line.{piece_at}

-- In a text that is not refused, each piece stands where the text of those before it ends: its duration, its values and then
-- zeros, and where the next one begins.
abbrev pub PiecesRead : Type 0
PiecesRead =
    (channels : ℕ) (t : Bytes) (before : List RawPiece) (r : RawPiece) (after : List RawPiece)
    → channels ≤ 8
    → read_record t ≡ some (before ++ r ∷ after)
    → record_refusal channels t ≡ none
    → piece_at t (length (render_record before))
    ≡ record { duration = r.duration; values = pad 8 (pos 0) (values_in r); next = length (render_record (before ++ (r ∷ []))) }

-- From whatever position in whatever text, the next one is further on, and not past the end: a walk ends.
abbrev pub PiecesEnd : Type 0
PiecesEnd = (t : Bytes) (at : ℕ) → at < length t → (at < (piece_at t at).next) × ((piece_at t at).next ≤ length t)

-- A text goes on after some of its pieces exactly if there are further ones.
abbrev pub PiecesLeft : Type 0
PiecesLeft =
    (t : Bytes) (before after : List RawPiece) → read_record t ≡ some (before ++ after)
    → (length (render_record before) < length t) ↔ (0 < length after)
