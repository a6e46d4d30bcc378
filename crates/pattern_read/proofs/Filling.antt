-- A line without a fault, put into the pattern, gives the pattern of what was read with it.
use Prim.Native.Nat.{ℕ, ◌+◌, ◌≤◌, ◌<◌, min}
use native.Mathlib.Omega.{arith}
use mathlib.Core.Path.{◌≡◌, refl, sym, ap, ◌∙◌}
use mathlib.Core.List.{List, [], ◌∷◌, ◌++◌, map, map-append}
use mathlib.Core.Option.{none}
use mathlib.Core.Bool.{true, ◌&&◌}
use lib.Dec.{leb, ltb}
use lib.ListN.{length, set, replicate, length-append, length-map}
use borrow.Author.Tests.{leb-true, ltb-true, lt-ltb}
use Rattle.pattern.specs.Slots.{all}
use Rattle.pattern.specs.Sound.{no_place, no_edge, test_in_range, test_known, guard_in_range, guard_known, header_in_range}
use Rattle.pattern.proofs.SlotLaws.{all-mapped}
use Rattle.pattern_text.specs.Line.{test_of, Header, PlaceLine, EdgeLine}
use Rattle.pattern_text.specs.Fault.{Doc, rising, edge_known, raw_in_range, raw_known, place_fault, edge_fault, with_place, with_edge}
use Rattle.pattern_text.specs.Text.{pad, place_of, edge_of, pattern_of}
use Rattle.pattern_text.proofs.Tools.{both, four}
use Rattle.pattern_text.proofs.ForCode.{pad_snoc}
use Rattle.pattern_text.proofs.Runs.{clear, head_fits, Fits}
use Rattle.text_scan.specs.Scan.{cap}
use Rattle.line_lists.specs.Lists.{gathered}
use Rattle.line_read.specs.Lines.{held_header, held_place, held_edge}
use Rattle.line_lists.proofs.Held.{min-ltb}
use Rattle.pattern_lines.proofs.Judgement.{InRange, ranges}
use Rattle.pattern_lines.specs.Turn.{verdict, verdict_of, header_fine, header_alone, put_place, place_verdict, place_from, put_edge, edge_verdict, edge_from}
use Rattle.pattern_read.proofs.HeldLines.{header_held, few-held, place-held, guards-held, resets-held, resets-known}

-- ---- the header

abbrev pub headed : Header → Doc
headed h = record { head = h; places = []; edges = [] }

pub header_same : (h : Header) → header_fine (held_header h) ≡ header_in_range h.channels h.clocks h.low h.high
unfolding header_fine
header_same h = header_held h.channels h.clocks h.low h.high

pub header_filled : (h : Header) → header_in_range h.channels h.clocks h.low h.high ≡ true → header_alone (held_header h) ≡ pattern_of (headed h)
unfolding header_alone pattern_of pad
header_filled h e =
    let r = ranges h.channels h.clocks h.low h.high e in
    let c : min 255 (min cap h.channels) ≡ h.channels = omega arith in
    let k : min 255 (min cap h.clocks) ≡ h.clocks = omega arith in
    let l : min 65_535 (min cap h.low) ≡ h.low = omega arith in
    let m : min 65_535 (min cap h.high) ≡ h.high = omega arith in
    λ i. record { weighing = h.weighing; channels = c i; clocks = k i; low = l i; high = m i; placecount = 0; places = replicate 16 no_place; edgecount = 0; edges = replicate 32 no_edge }

-- ---- what fits is small

pub small : (d : Doc) → Fits d → InRange d.head.channels d.head.clocks d.head.low d.head.high
unfolding head_fits
small d f = ranges d.head.channels d.head.clocks d.head.low d.head.high f.head

-- ---- one slot more

filled : {A B : Type 0} (size : ℕ) (u : B) (f : A → B) (xs : List A) (x : A) → length xs < size → set (pad size u (map f xs)) (length xs) (f x) ≡ pad size u (map f (xs ++ (x ∷ [])))
filled size u f xs x h =
    let n = length-map xs f in
    sym (ap (pad size u) (map-append f xs (x ∷ [])) ∙ pad_snoc size u (f x) (map f xs) (omega arith) ∙ ap (λ (k : ℕ). set (pad size u (map f xs)) k (f x)) n)

more : {A : Type 0} (xs : List A) (x : A) → length xs + 1 ≡ length (xs ++ (x ∷ []))
more xs x = sym (length-append xs (x ∷ []))

-- ---- a place

place-put : (d : Doc) (l : PlaceLine) → length d.places < 16 → put_place (pattern_of d) (place_of l) ≡ pattern_of (with_place d l)
unfolding put_place pattern_of
place-put d l h = rw (lt-ltb (length d.places) 16 h) (λ i. record {
  weighing = d.head.weighing;
  channels = d.head.channels;
  clocks = d.head.clocks;
  low = d.head.low;
  high = d.head.high;
  placecount = more d.places l i;
  places = filled 16 no_place place_of d.places l h i;
  edgecount = length d.edges;
  edges = pad 32 no_edge (map edge_of d.edges);
})

module _ (d : Doc) (fits : Fits d) (l : PlaceLine) where
  pub place-judged : place_verdict (length d.places) (held_place d.head.channels l).tests ≡ verdict (place_fault d l)
  unfolding place_verdict verdict_of gathered place_fault
  place-judged = rw (length-map l.tests test_of, few-held (length l.tests), all-mapped test_in_range test_of l.tests, all-mapped (test_known d.head.channels) test_of l.tests) refl

  pub place_filled : place_fault d l ≡ none → put_place (pattern_of d) (place_from (held_place d.head.channels l)) ≡ pattern_of (with_place d l)
  unfolding place_fault
  place_filled e =
      let c = clear (ltb (length d.places) 16 && leb (length l.tests) 4) (all raw_in_range l.tests) (all (raw_known d.head.channels) l.tests) e in
      let k = both (ltb (length d.places) 16) (leb (length l.tests) 4) c.0 in
      let r = both (all raw_in_range l.tests) (all (raw_known d.head.channels) l.tests) c.1 in
      let s = small d fits in
      ap (put_place (pattern_of d)) (place-held d.head.channels (omega arith) l (leb-true (length l.tests) 4 k.1) r.0 r.1)
      ∙ place-put d l (ltb-true (length d.places) 16 k.0)

-- ---- an edge

edge-put : (d : Doc) (e : EdgeLine) → length d.edges < 32 → put_edge (pattern_of d) (edge_of e) ≡ pattern_of (with_edge d e)
unfolding put_edge pattern_of
edge-put d e h = rw (lt-ltb (length d.edges) 32 h) (λ i. record {
  weighing = d.head.weighing;
  channels = d.head.channels;
  clocks = d.head.clocks;
  low = d.head.low;
  high = d.head.high;
  placecount = length d.places;
  places = pad 16 no_place (map place_of d.places);
  edgecount = more d.edges e i;
  edges = filled 32 no_edge edge_of d.edges e h i;
})

edge-held : (d : Doc) → Fits d → (e : EdgeLine) → length e.guards ≤ 4 → all guard_in_range e.guards ≡ true → all (guard_known d.head.clocks) e.guards ≡ true → e.from < length d.places → e.to < length d.places → edge_from (held_edge d.head.clocks e) ≡ edge_of e
unfolding edge_from edge_of gathered
edge-held d fits e h r k p q =
    let s = small d fits in
    let f = fits.few in
    let from : min 255 (min cap e.from) ≡ e.from = omega arith in
    let to : min 255 (min cap e.to) ≡ e.to = omega arith in
    let count : min 255 (min 256 (length e.guards)) ≡ length e.guards = omega arith in
    λ i. record { from = from i; to = to i; guards = guards-held d.head.clocks (omega arith) e.guards h r k i; count = count i; resets = resets-held d.head.clocks e.resets i }

module _ (d : Doc) (fits : Fits d) (e : EdgeLine) where
  pub edge-judged : edge_verdict (length d.places) (length d.edges) (held_edge d.head.clocks e) ≡ verdict (edge_fault d e)
  unfolding edge_verdict verdict_of gathered edge_fault edge_known
  edge-judged =
      let s = small d fits in
      let f = fits.few in
      rw (
        few-held (length e.guards),
        min-ltb cap (length d.places) e.from (omega arith),
        min-ltb cap (length d.places) e.to (omega arith),
        resets-known d.head.clocks (omega arith) e.resets,
      ) refl

  pub edge_filled : edge_fault d e ≡ none → put_edge (pattern_of d) (edge_from (held_edge d.head.clocks e)) ≡ pattern_of (with_edge d e)
  unfolding edge_fault edge_known
  edge_filled z =
      let c = clear (ltb (length d.edges) 32 && leb (length e.guards) 4) (all guard_in_range e.guards) (edge_known d.head.clocks (length d.places) e) z in
      let k = both (ltb (length d.edges) 32) (leb (length e.guards) 4) c.0 in
      let r = both (all guard_in_range e.guards) (edge_known d.head.clocks (length d.places) e) c.1 in
      let q = four (ltb e.from (length d.places)) (ltb e.to (length d.places)) (all (guard_known d.head.clocks) e.guards) (rising 0 d.head.clocks e.resets) r.1 in
      ap (put_edge (pattern_of d)) (edge-held d fits e (leb-true (length e.guards) 4 k.1) r.0 q.2 (ltb-true e.from (length d.places) q.0) (ltb-true e.to (length d.places) q.1))
      ∙ edge-put d e (ltb-true (length d.edges) 32 k.0)
