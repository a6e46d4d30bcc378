-- A pattern's text: read and written (document 01, 'Read a pattern', 'Write a pattern').
use Rattle.std.specs.Prelude.{ℕ, zero, suc, ◌-◌, List, [], ◌∷◌, ◌++◌, map, Bool, true, false, cond, ◌||◌, eqb, ltb, length, take, replicate}
use Rattle.std.proofs.Math.Option.{Option, none, some}
use Rattle.pattern.specs.declared.Refusal.{Refusal}
use Rattle.pattern.specs.declared.Refusal.TheVariants.{TextTooLong, BrokenForm}
use Rattle.pattern.specs.declared.Place.{Place}
use Rattle.pattern.specs.declared.Edge.{Edge}
use Rattle.pattern.specs.declared.Pattern.{Pattern}
use Rattle.pattern.specs.Sound.{no_test, no_place, no_guard, no_edge}
use Rattle.pattern_text.specs.Bytes.{Bytes, bytes}
use Rattle.pattern_text.specs.Form.{write_many}
use Rattle.pattern_text.specs.Line.{test_of, raw_test_of, PlaceLine, EdgeLine, Raw, render_line, line_of, header, place, edge}
use Rattle.pattern_text.specs.Fault.{Doc, Step, is_empty, step_of, next, stop}

-- the answer to a text: the pattern, or "its number alone", by its cause (`number_of`)
pub data Answer : Type 0 where
  accepted : Pattern → Answer
  refused : Refusal → Answer

-- ---- the lines of a text: lines, each ended by a line feed, and then bytes without one

pub data Lines : Type 0 where
  line : Bytes → Lines → Lines
  rest : Bytes → Lines

abbrev pub into : ℕ → Lines → Lines
into c (line b ls) = line (c ∷ b) ls
into c (rest b) = rest (c ∷ b)

unfoldable pub lines_of : Bytes → Lines
lines_of [] = rest []
lines_of (c ∷ t) = cond (eqb c 10) (line [] (lines_of t)) (into c (lines_of t))

-- ---- between what was read and the pattern

-- an array of `size` slots, the first ones in use
unfoldable pub pad : {A : Type 0} → ℕ → A → List A → List A
pad size unused xs = xs ++ replicate (size - length xs) unused

-- whether k is one of the clocks
unfoldable pub among : ℕ → List ℕ → Bool
among k [] = false
among k (c ∷ cs) = eqb k c || among k cs

-- for each of n clocks from k, whether it is reset
unfoldable pub flags : ℕ → ℕ → List ℕ → List Bool
flags k zero cs = []
flags k (suc n) cs = among k cs ∷ flags (suc k) n cs

-- the clocks from k that are reset
unfoldable pub flagged : ℕ → List Bool → List ℕ
flagged k [] = []
flagged k (true ∷ bs) = k ∷ flagged (suc k) bs
flagged k (false ∷ bs) = flagged (suc k) bs

-- "Its unused slots are zeros, with sign `<` and kind plain."
unfoldable pub place_of : PlaceLine → Place
place_of l = record { kind = l.kind; tests = pad 4 no_test (map test_of l.tests); count = length l.tests }

unfoldable pub edge_of : EdgeLine → Edge
edge_of e = record { from = e.from; to = e.to; guards = pad 4 no_guard e.guards; count = length e.guards; resets = flags 0 4 e.resets }

unfoldable pub pattern_of : Doc → Pattern
pattern_of d = record {
  weighing = d.head.weighing;
  channels = d.head.channels;
  clocks = d.head.clocks;
  low = d.head.low;
  high = d.head.high;
  placecount = length d.places;
  places = pad 16 no_place (map place_of d.places);
  edgecount = length d.edges;
  edges = pad 32 no_edge (map edge_of d.edges);
}

-- and back: what a pattern's text says
unfoldable pub place_line_of : Place → PlaceLine
place_line_of l = record { kind = l.kind; tests = map raw_test_of (take l.count l.tests) }

unfoldable pub edge_line_of : Edge → EdgeLine
edge_line_of e = record { from = e.from; to = e.to; guards = take e.count e.guards; resets = flagged 0 e.resets }

unfoldable pub doc_of : Pattern → Doc
doc_of p = record {
  head = record { weighing = p.weighing; channels = p.channels; clocks = p.clocks; low = p.low; high = p.high };
  places = map place_line_of (take p.placecount p.places);
  edges = map edge_line_of (take p.edgecount p.edges);
}

-- ---- reading

-- at the end of the text: "empty text .. and no place at all" are 2
unfoldable pub finish : Option Doc → Answer
finish none = refused BrokenForm
finish (some d) = cond (is_empty d.places) (refused BrokenForm) (accepted (pattern_of d))

-- what a line is to what was read above it; "the form is broken" is 2
abbrev pub meant : Option Doc → Option Raw → Step
meant s none = stop BrokenForm
meant s (some l) = step_of s l

abbrev pub onward : Step → (Doc → Answer) → Answer
onward (next d) k = k d
onward (stop r) k = refused r

-- "the first faulty line decides"; "missing line feed" is 2
unfoldable pub read_lines : Option Doc → Lines → Answer
read_lines s (line b ls) = onward (meant s (line_of b)) (λ d. read_lines (some d) ls)
read_lines s (rest []) = finish s
read_lines s (rest (c ∷ b)) = refused BrokenForm

-- "1: over 8,192 bytes"
unfoldable pub read_of : Bytes → Answer
read_of t = cond (ltb 8_192 (length t)) (refused TextTooLong) (read_lines none (lines_of t))

-- ---- writing

-- the header, "then" the places, "then" the edges
unfoldable pub raws_of : Doc → List Raw
raws_of d = header d.head ∷ map place d.places ++ map edge d.edges

-- "each line ended by a line feed"
unfoldable pub ended : Raw → Bytes
ended l = render_line l ++ bytes "\n"

-- a pattern's text
unfoldable pub render_of : Pattern → Bytes
render_of p = write_many ended (raws_of (doc_of p))
