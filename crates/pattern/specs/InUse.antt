-- What of a pattern value is in use: the slots that its counts name. A place or an edge by its number.
use Rattle.std.specs.Prelude.{ℕ, List, take, get_or}
use Rattle.pattern.specs.declared.Test.{Test}
use Rattle.pattern.specs.declared.Guard.{Guard}
use Rattle.pattern.specs.declared.Place.{Place}
use Rattle.pattern.specs.declared.Edge.{Edge}
use Rattle.pattern.specs.declared.Pattern.{Pattern}
use Rattle.pattern.specs.Sound.{no_place, no_edge}

abbrev pub tests_of : Place → List Test
tests_of l = take l.count l.tests

abbrev pub guards_of : Edge → List Guard
guards_of e = take e.count e.guards

abbrev pub places_of : Pattern → List Place
places_of p = take p.placecount p.places

abbrev pub edges_of : Pattern → List Edge
edges_of p = take p.edgecount p.edges

-- "Places, channels, clocks and edges count from 0."
abbrev pub place_at : Pattern → ℕ → Place
place_at p k = get_or p.places k no_place

abbrev pub edge_at : Pattern → ℕ → Edge
edge_at p k = get_or p.edges k no_edge
