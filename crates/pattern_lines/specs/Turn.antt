-- A line, judged and put into the pattern, for the contracts of the functions below `first_line` and `further_line`.
use Rattle.std.specs.Prelude.{ℕ, ◌+◌, min, Bool, cond, ◌&&◌, ltb, eqb, set, replicate, Result, Ok, Err}
use Rattle.std.specs.Borrow.{Bor}
use Rattle.std.proofs.Math.Option.{Option, none, some}
use Rattle.pattern.specs.declared.Refusal.{Refusal}
use Rattle.pattern.specs.declared.Refusal.TheVariants.{BrokenForm, OutOfRange}
use Rattle.pattern.specs.declared.Test.{Test}
use Rattle.pattern.specs.declared.Place.{Place}
use Rattle.pattern.specs.declared.Edge.{Edge}
use Rattle.pattern.specs.declared.Pattern.{Pattern}
use Rattle.pattern.specs.Sound.{no_place, no_edge, header_in_range}
use Rattle.pattern_text.specs.Bytes.{Bytes, Reading, got, broken}
use Rattle.pattern_text.specs.Form.{giving, ◌◂◌}
use Rattle.pattern_text.specs.Line.{header_line, place_line, edge_line}
use Rattle.pattern_text.specs.Fault.{judged}
use Rattle.line_lists.specs.declared.Parts.{Parts}
use Rattle.line_read.specs.declared.Header.{Header}
use Rattle.line_read.specs.declared.PlaceLine.{PlaceLine}
use Rattle.line_read.specs.declared.EdgeLine.{EdgeLine}
use Rattle.line_read.specs.Lines.{held_header, held_place, held_edge}

-- ---- a line, judged

-- the fault of a line, as the code has it
abbrev pub verdict : Option Refusal → Result Unit Refusal
verdict none = Ok tt
verdict (some r) = Err r

-- 4, 3, 5, in this order
unfoldable pub verdict_of : (few in_range known : Bool) → Result Unit Refusal
verdict_of few in_range known = verdict (judged few in_range known)

-- what a reading gives: something and the rest, or nothing
abbrev pub on_read : {A B : Type 0} → (A → Bytes → B) → B → Reading A → B
on_read f other (got a r) = f a r
on_read f other broken = other

-- ---- the header

-- "channels 1 to 8; clocks 0 to 4; the window's low, 1 to 4,095; its high, low to 4,095"
unfoldable pub header_fine : Header → Bool
header_fine h = header_in_range h.channels h.clocks h.low h.high

-- a pattern of a header alone
unfoldable pub header_alone : Header → Pattern
header_alone h = record {
  weighing = h.weighing;
  channels = min 255 h.channels;
  clocks = min 255 h.clocks;
  low = min 65_535 h.low;
  high = min 65_535 h.high;
  placecount = 0;
  places = replicate 16 no_place;
  edgecount = 0;
  edges = replicate 32 no_edge;
}

-- a header that was read, judged: the pattern that it begins, and what is left of the text
abbrev pub header_judged : Header → Bytes → Result (Pattern × Bytes) Refusal
header_judged h r = cond (header_fine h) (Ok (header_alone h, r)) (Err OutOfRange)

-- the header's line, or a broken form
unfoldable pub header_turn : Bytes → Result (Pattern × Bytes) Refusal
header_turn t = on_read header_judged (Err BrokenForm) (giving held_header ((header_line ◂ "\n").read t))

-- the same as the code answers it
abbrev pub begun : Result (Pattern × Bor Bytes) Refusal → Result (Pattern × Bytes) Refusal
begun (Ok x) = Ok (x.0, x.1.now)
begun (Err r) = Err r

-- ---- places and edges

-- "1 to 16 places .. with 0 to 4 tests", in a pattern with `count` places
unfoldable pub place_verdict : ℕ → Parts Test 4 → Result Unit Refusal
place_verdict count tests = verdict_of (ltb count 16 && ltb tests.count 5) tests.in_range tests.known

-- the place of a line without a fault
unfoldable pub place_from : PlaceLine → Place
place_from line = record { kind = line.kind; tests = line.tests.parts; count = min 255 line.tests.count }

-- "0 to 32 edges .. 0 to 4 guards", in a pattern with `count` edges
unfoldable pub edge_verdict : (places count : ℕ) → EdgeLine → Result Unit Refusal
edge_verdict places count line = verdict_of
    (ltb count 32 && ltb line.guards.count 5)
    line.guards.in_range
    (ltb line.from places && ltb line.to places && line.guards.known && line.resets.known)

-- the edge of a line without a fault
unfoldable pub edge_from : EdgeLine → Edge
edge_from line = record { from = min 255 line.from; to = min 255 line.to; guards = line.guards.parts; count = min 255 line.guards.count; resets = line.resets.flags }

-- ---- a line, put into the pattern

-- one place more, one edge more, if there is room
unfoldable pub put_place : Pattern → Place → Pattern
put_place p place = record p {
  placecount = cond (ltb p.placecount 16) (p.placecount + 1) p.placecount;
  places = cond (ltb p.placecount 16) (set p.places p.placecount place) p.places;
}

unfoldable pub put_edge : Pattern → Edge → Pattern
put_edge p edge = record p {
  edgecount = cond (ltb p.edgecount 32) (p.edgecount + 1) p.edgecount;
  edges = cond (ltb p.edgecount 32) (set p.edges p.edgecount edge) p.edges;
}

-- the pattern with a line that has no fault, and as it was at a fault
abbrev pub put_if : Result Unit Refusal → (with before : Pattern) → Pattern
put_if (Ok u) with before = with
put_if (Err r) with before = before

-- ---- a turn: what is left of the text, or the fault; and the pattern

abbrev pub Turn : Type 0
Turn = Result Bytes Refusal × Pattern

-- what is left, as the code answers it
abbrev pub left_by : Result (Bor Bytes) Refusal → Result Bytes Refusal
left_by (Ok r) = Ok r.now
left_by (Err r) = Err r

-- what a judgement makes of a line
abbrev pub ruled : Result Unit Refusal → (with before : Pattern) → Bytes → Turn
ruled (Ok u) with before r = (Ok r, with)
ruled (Err e) with before r = (Err e, before)

-- a place's line that was read, judged
unfoldable pub place_judged : Pattern → PlaceLine → Bytes → Turn
place_judged p line r = ruled (place_verdict p.placecount line.tests) (put_place p (place_from line)) p r

-- an edge's line that was read, judged: there must be a place above it
unfoldable pub edge_judged : Pattern → EdgeLine → Bytes → Turn
edge_judged p line r = cond (ltb p.placecount 1) (Err BrokenForm, p) (ruled (edge_verdict p.placecount p.edgecount line) (put_edge p (edge_from line)) p r)

-- an edge's line, or a broken form
unfoldable pub edge_turn : Pattern → Bytes → Turn
edge_turn p t = on_read (edge_judged p) (Err BrokenForm, p) (giving (held_edge p.clocks) ((edge_line ◂ "\n").read t))

-- a place's line, or an edge's
unfoldable pub place_turn : Pattern → Bytes → Turn
place_turn p t = on_read (place_judged p) (edge_turn p t) (giving (held_place p.channels) ((place_line ◂ "\n").read t))

-- the line that may stand next: after an edge no place may come
unfoldable pub line_turn : Pattern → Bytes → Turn
line_turn p t = cond (eqb p.edgecount 0) (place_turn p t) (edge_turn p t)
