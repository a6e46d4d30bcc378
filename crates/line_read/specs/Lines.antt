-- What a line says, with its numbers held and its lists gathered.
use Rattle.std.specs.Prelude.{ℕ, map, min}
use Rattle.pattern_text.specs.Line as line
use Rattle.pattern_text.specs.Line.{test_of}
use Rattle.text_scan.specs.Scan.{cap}
use Rattle.line_read.specs.declared.Header.{Header}
use Rattle.line_read.specs.declared.PlaceLine.{PlaceLine}
use Rattle.line_read.specs.declared.EdgeLine.{EdgeLine}
use Rattle.line_lists.specs.Lists.{gathered_tests, gathered_guards}
use Rattle.line_lists.specs.ResetList.{no_resets, added}

-- line 1
abbrev pub held_header : line.Header → Header
held_header h = record { weighing = h.weighing; channels = min cap h.channels; clocks = min cap h.clocks; low = min cap h.low; high = min cap h.high }

-- a place's line
abbrev pub held_place : (channels : ℕ) → line.PlaceLine → PlaceLine
held_place channels l = record { kind = l.kind; tests = gathered_tests channels (map test_of l.tests) }

-- an edge's line
abbrev pub held_edge : (clocks : ℕ) → line.EdgeLine → EdgeLine
held_edge clocks e = record { from = min cap e.from; to = min cap e.to; guards = gathered_guards clocks e.guards; resets = added clocks no_resets e.resets }
