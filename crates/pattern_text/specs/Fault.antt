-- What is wrong with a line whose form is right (document 01, 'Read a pattern'), given what was read above it.
use Rattle.std.specs.Prelude.{ℕ, suc, List, [], ◌∷◌, ◌++◌, Bool, true, false, cond, ◌&&◌, leb, ltb, length}
use Rattle.std.proofs.Math.Option.{Option, none, some}
use Rattle.pattern.specs.declared.Refusal.{Refusal}
use Rattle.pattern.specs.declared.Refusal.TheVariants.{BrokenForm, OutOfRange, TooMany, UnknownIndex}
use Rattle.pattern.specs.Slots.{all}
use Rattle.pattern.specs.Sound.{test_in_range, test_known, guard_in_range, guard_known, header_in_range}
use Rattle.pattern_text.specs.Line.{Header, RawTest, test_of, PlaceLine, EdgeLine, Raw, header, place, edge}

-- what was read: the header, the places and the edges
pub record Doc : Type 0 where
  pub head : Header
  pub places : List PlaceLine
  pub edges : List EdgeLine

-- "4, a place, edge, test or guard too many; 3, a number outside its range; 5, an index that the pattern lacks, or a
-- reset not above the one before it", in this order; none if there is no fault
unfoldable pub judged : (few in_range known : Bool) → Option Refusal
judged few in_range known = cond few (cond in_range (cond known none (some UnknownIndex)) (some OutOfRange)) (some TooMany)

-- each clock known, and above the one before it
unfoldable pub rising : (least clocks : ℕ) → List ℕ → Bool
rising least clocks [] = true
rising least clocks (c ∷ cs) = leb least c && ltb c clocks && rising (suc c) clocks cs

-- both ends among the places above, each guard's clock known, and the resets known and rising
unfoldable pub edge_known : (clocks places : ℕ) → EdgeLine → Bool
edge_known clocks places e = ltb e.from places && ltb e.to places && all (guard_known clocks) e.guards && rising 0 clocks e.resets

-- a header has ranges only
unfoldable pub header_fault : Header → Option Refusal
header_fault h = judged true (header_in_range h.channels h.clocks h.low h.high) true

-- a test's numbers in their ranges, among which a band's low above its high counts as out of range (R-1); its channel known
abbrev pub raw_in_range : RawTest → Bool
raw_in_range x = test_in_range (test_of x)

abbrev pub raw_known : (channels : ℕ) → RawTest → Bool
raw_known channels x = test_known channels (test_of x)

-- "1 to 16 places .. with 0 to 4 tests"
unfoldable pub place_fault : Doc → PlaceLine → Option Refusal
place_fault d l = judged
    (ltb (length d.places) 16 && leb (length l.tests) 4)
    (all raw_in_range l.tests)
    (all (raw_known d.head.channels) l.tests)

-- "0 to 32 edges .. 0 to 4 guards"
unfoldable pub edge_fault : Doc → EdgeLine → Option Refusal
edge_fault d e = judged
    (ltb (length d.edges) 32 && leb (length e.guards) 4)
    (all guard_in_range e.guards)
    (edge_known d.head.clocks (length d.places) e)

-- ---- one line more: what was read with it, or its fault

pub data Step : Type 0 where
  next : Doc → Step
  stop : Refusal → Step

abbrev pub unless : Option Refusal → Doc → Step
unless none d = next d
unless (some r) d = stop r

abbrev pub is_empty : {A : Type 0} → List A → Bool
is_empty [] = true
is_empty (x ∷ xs) = false

abbrev pub with_place : Doc → PlaceLine → Doc
with_place d l = record { head = d.head; places = d.places ++ (l ∷ []); edges = d.edges }

abbrev pub with_edge : Doc → EdgeLine → Doc
with_edge d e = record { head = d.head; places = d.places; edges = d.edges ++ (e ∷ []) }

-- "a line of the wrong kind, as a place after an edge" is 2
unfoldable pub step_of : Option Doc → Raw → Step
step_of none (header h) = unless (header_fault h) (record { head = h; places = []; edges = [] })
step_of none (place l) = stop BrokenForm
step_of none (edge e) = stop BrokenForm
step_of (some d) (header h) = stop BrokenForm
step_of (some d) (place l) = cond (is_empty d.edges) (unless (place_fault d l) (with_place d l)) (stop BrokenForm)
step_of (some d) (edge e) = cond (is_empty d.places) (stop BrokenForm) (unless (edge_fault d e) (with_edge d e))
