-- A line of a record text (document 01, 'The watch program'), with numbers of any size.
use Rattle.std.specs.Prelude.{ℕ, List, ◌∷◌, ℤ}
use Rattle.pattern_text.specs.Form.{Form, ◌▸◌, ◌◂◌, ◌⨾◌, many, mapped, number, integer}

-- "duration then one or more values": what a line says
pub record RawPiece : Type 0 where
  pub duration : ℕ
  pub value : ℤ
  pub further : List ℤ

abbrev pub values_in : RawPiece → List ℤ
values_in r = r.value ∷ r.further

-- ` 10`: "a minus in values only and as in a bound"
unfoldable pub value : Form ℤ
value = " " ▸ integer

-- `(piece 2 10)`, without its line feed
unfoldable pub piece_line : Form RawPiece
piece_line = mapped
    (λ (d, (v, vs)). record { duration = d; value = v; further = vs })
    (λ r. (r.duration, (r.value, r.further)))
    ("(piece " ▸ number ⨾ value ⨾ many value ◂ ")")
