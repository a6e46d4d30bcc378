-- The pattern text of document 01 alone, before R-1 of document 02: every test of a place has a sign. It is read from the same
-- parts and judged by the same rules; only the line of a place differs. Its patterns are today's, without a band.
use Rattle.std.specs.Prelude.{ℕ, ◌≡◌, ◌↔◌, List, [], ◌∷◌, map, Bool, true, not, cond, ltb, length, ℤ}
use Rattle.std.proofs.Math.Option.{Option, none, some}
use Rattle.pattern.specs.declared.Sign.{Sign}
use Rattle.pattern.specs.declared.Kind.{Kind}
use Rattle.pattern.specs.declared.Pattern.{Pattern}
use Rattle.pattern.specs.declared.Refusal.TheVariants.{TextTooLong, BrokenForm}
use Rattle.pattern.specs.Slots.{all}
use Rattle.pattern.specs.InUse.{tests_of, places_of}
use Rattle.pattern_text.specs.Bytes.{Bytes, Reading}
use Rattle.pattern_text.specs.Form.{Form, giving, or_else, ◌▸◌, ◌◂◌, ◌⨾◌, many}
use Rattle.pattern_text.specs.Line.{PlaceLine, Raw, header, place, edge, kind, side_test, side_of, header_line, edge_line, whole}
use Rattle.pattern_text.specs.Fault.{Doc}
use Rattle.pattern_text.specs.Text.{Answer, accepted, refused, Lines, line, rest, lines_of, finish, meant, onward, read_of, render_of}

-- `(place start (< 0 15))`
unfoldable pub signed_place : Form (Kind × List (Sign × (ℕ × ℤ)))
signed_place = "(place " ▸ kind ⨾ many side_test ◂ ")"

abbrev pub signed_says : Kind × List (Sign × (ℕ × ℤ)) → PlaceLine
signed_says (k, ts) = record { kind = k; tests = map side_of ts }

-- a line of one of the three kinds
unfoldable pub signed_line : Bytes → Reading Raw
signed_line b = or_else (giving header (header_line.read b)) (or_else (giving (λ l. place (signed_says l)) (signed_place.read b)) (giving edge (edge_line.read b)))

unfoldable pub signed_lines : Option Doc → Lines → Answer
signed_lines s (line b ls) = onward (meant s (whole (signed_line b))) (λ d. signed_lines (some d) ls)
signed_lines s (rest []) = finish s
signed_lines s (rest (c ∷ b)) = refused BrokenForm

unfoldable pub read_signed : Bytes → Answer
read_signed t = cond (ltb 8_192 (length t)) (refused TextTooLong) (signed_lines none (lines_of t))

-- no test in use is a band
unfoldable pub all_signed : Pattern → Bool
all_signed p = all (λ l. all (λ t. not t.band) (tests_of l)) (places_of p)

-- Theorem: document 01's reader accepts a text exactly if today's accepts it as a pattern without a band, and as the same
-- pattern. Today's writer then writes this text.
abbrev pub OldTextsUnchanged : Type 0
OldTextsUnchanged = (t : Bytes) (p : Pattern)
    → ((read_signed t ≡ accepted p) ↔ ((read_of t ≡ accepted p) × (all_signed p ≡ true)))
    × (read_signed t ≡ accepted p → render_of p ≡ t)
