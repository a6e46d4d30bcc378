-- Document 01's record ('The watch program'): its two lines, and the pieces that they are read as.
use Rattle.std.specs.Prelude.{List, [], ◌∷◌, pos}
use Rattle.pattern_text.specs.Bytes.{Bytes, bytes}
use Rattle.record_text.specs.Piece.{RawPiece}

abbrev pub example_text : Bytes
example_text = bytes "(piece 2 10)\n(piece 2 40)\n"

abbrev pub example : List RawPiece
example = record { duration = 2; value = pos 10; further = [] } ∷ record { duration = 2; value = pos 40; further = [] } ∷ []
