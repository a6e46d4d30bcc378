-- The lines of a pattern's text, each ended by a line feed.
use Rattle.pattern.specs.declared.Place.{Place}
use Rattle.pattern.specs.declared.Edge.{Edge}
use Rattle.pattern.specs.declared.Pattern.{Pattern}
use Rattle.pattern_text.specs.Bytes.{Bytes}
use Rattle.pattern_text.specs.Line.{header, place, edge}
use Rattle.pattern_text.specs.Text.{place_line_of, edge_line_of, doc_of, ended}

abbrev pub header_text : Pattern → Bytes
header_text p = ended (header (doc_of p).head)

abbrev pub place_text : Place → Bytes
place_text l = ended (place (place_line_of l))

abbrev pub edge_text : Edge → Bytes
edge_text e = ended (edge (edge_line_of e))
