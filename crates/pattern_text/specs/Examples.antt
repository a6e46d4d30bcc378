-- Document 01's example, bands, and a few refusals, computed through the definitions.
use Rattle.std.specs.Prelude.{ℕ, ◌≡◌, refl, ◌∷◌, ◌++◌, Bool, true, false, replicate, pos, negsuc}
use Prim.Native.String.{String}
use Rattle.pattern.specs.declared.Sign.TheVariants.{Less}
use Rattle.pattern.specs.declared.Kind.TheVariants.{Both}
use Rattle.pattern.specs.declared.Pattern.{Pattern}
use Rattle.weighting.specs.declared.Weighing.{Weighing}
use Rattle.weighting.specs.declared.Weighing.TheVariants.{Margin, Sum}
use Rattle.pattern.specs.declared.Refusal.TheVariants.{BrokenForm, OutOfRange, TooMany, UnknownIndex}
use Rattle.pattern.specs.Sound.{bounded, banded, no_test, no_place, no_edge, bound_in_range, band_in_range, test_in_range, test_known, guard_in_range, guard_known, header_in_range}
use Rattle.pattern_text.specs.Bytes.{Bytes, bytes}
use Rattle.pattern_text.specs.Numeral.{decimal_f, decimal, front, after, plain, value_from, numeral_of}
use Rattle.pattern_text.specs.Form.{strip, ◌▸◌, ◌◂◌, ◌⨾◌, first_of, one_of, either, write_many, read_many, many, mapped, number, write_ℤ, integer}
use Rattle.pattern_text.specs.Line.{weighing, kind, resets, sign_word, kind_word, weighing_word, sign, side_test, band_test, test, guard, bracket, write_resets, header_line, place_line, edge_line, render_line, read_line, line_of}
use Rattle.pattern_text.specs.Fault.{judged, rising, edge_known, header_fault, place_fault, edge_fault, step_of}
use Rattle.pattern_text.specs.Text.{Answer, lines_of, pad, among, flags, flagged, place_of, edge_of, pattern_of, place_line_of, edge_line_of, doc_of, finish, read_lines, read_of, raws_of, ended, render_of, accepted, refused}
use Rattle.pattern_text.specs.Signed.{signed_place, signed_line, signed_lines, read_signed}
use Rattle.pattern_text.specs.Example.{example_text, example}

-- `read_of` of a quoted text, with all that it computes by
read_text : String → Answer
unfolding strip ◌▸◌ ◌◂◌ ◌⨾◌ first_of one_of either write_many read_many many mapped number write_ℤ integer decimal_f decimal front after plain value_from numeral_of sign_word kind_word weighing_word sign kind weighing side_test band_test test guard bracket write_resets resets header_line place_line edge_line render_line read_line line_of bound_in_range band_in_range test_in_range test_known guard_in_range guard_known header_in_range judged rising edge_known header_fault place_fault edge_fault step_of lines_of pad among flags flagged place_of edge_of pattern_of place_line_of edge_line_of doc_of finish read_lines read_of raws_of ended render_of
read_text s = read_of (bytes s)

pub reads : (w : Weighing) → read_of (example_text w) ≡ accepted (example w)
unfolding read_text
reads Margin = refl
reads Sum = refl

writes : (w : Weighing) → render_of (example w) ≡ example_text w
unfolding read_text
writes Margin = refl
writes Sum = refl

-- `-0`
minus-zero : read_text "(pattern margin 1 1 1 4)\n(place start (< 0 -0))\n" ≡ refused BrokenForm
unfolding read_text
minus-zero = refl

-- a window `4 3`
window : read_text "(pattern margin 1 1 4 3)\n" ≡ refused OutOfRange
unfolding read_text
window = refl

-- an unknown clock
clock : read_text "(pattern margin 1 1 1 4)\n(place both)\n(edge 0 0 (< 1 3))\n" ≡ refused UnknownIndex
unfolding read_text
clock = refl

-- a bound of -1,000,001; one of -1,000,000 is read
bound : read_text "(pattern sum 1 0 1 4)\n(place both (>= 0 -1000001))\n" ≡ refused OutOfRange
unfolding read_text
bound = refl

is_accepted : Answer → Bool
is_accepted (accepted p) = true
is_accepted (refused n) = false

bound-read : is_accepted (read_text "(pattern sum 1 0 1 4)\n(place both (>= 0 -1000000))\n") ≡ true
unfolding read_text is_accepted
bound-read = refl

-- an index of many digits is one that the pattern lacks
far : read_text "(pattern sum 1 0 1 4)\n(place both (< 99999999999999999999 1))\n" ≡ refused UnknownIndex
unfolding read_text
far = refl

-- 16 places are read, a 17th is one too many
places : ℕ → Bytes
unfolding read_text
places n = bytes "(pattern sum 1 0 1 4)\n" ++ write_many (λ (b : Bytes). b) (replicate n (bytes "(place end)\n"))

sixteen : is_accepted (read_of (places 16)) ≡ true
unfolding read_text places is_accepted
sixteen = refl

seventeen : read_of (places 17) ≡ refused TooMany
unfolding read_text places
seventeen = refl

-- a good header alone; no line feed; resets not rising; an empty bracket; a place after an edge
alone : read_text "(pattern sum 1 0 1 4)\n" ≡ refused BrokenForm
unfolding read_text
alone = refl

no_feed_lem : read_text "(pattern sum 1 0 1 4)\n(place both)" ≡ refused BrokenForm
unfolding read_text
no_feed_lem = refl

not-rising : read_text "(pattern sum 1 2 1 4)\n(place both)\n(edge 0 0 (reset 1 1))\n" ≡ refused UnknownIndex
unfolding read_text
not-rising = refl

empty-bracket : read_text "(pattern sum 1 2 1 4)\n(place both)\n(edge 0 0 (reset))\n" ≡ refused BrokenForm
unfolding read_text
empty-bracket = refl

place_after : read_text "(pattern sum 1 2 1 4)\n(place both)\n(edge 0 0)\n(place both)\n" ≡ refused BrokenForm
unfolding read_text
place_after = refl

-- five tests, one of them out of range: 4 comes before 3
five : read_text "(pattern sum 1 2 1 4)\n(place both (< 0 1) (< 0 1) (< 0 1) (< 0 1) (< 9 1000001))\n" ≡ refused TooMany
unfolding read_text
five = refl

-- a bound out of range, of a channel that the pattern lacks: 3 comes before 5
range-first : read_text "(pattern sum 1 2 1 4)\n(place both (< 9 1000001))\n" ≡ refused OutOfRange
unfolding read_text
range-first = refl

-- ---- bands (R-1)

-- a band is read as its value, beside another test, and written
band_text : Bytes
band_text = bytes "(pattern sum 1 0 1 4)\n(place both (in 0 -5 1000000) (< 0 9))\n"

band_pattern : Pattern
band_pattern =
    record {
      weighing = Sum;
      channels = 1;
      clocks = 0;
      low = 1;
      high = 4;
      placecount = 1;
      places = record { kind = Both; tests = banded 0 (negsuc 4) (pos 1_000_000) ∷ bounded Less 0 (pos 9) ∷ replicate 2 no_test; count = 2 } ∷ replicate 15 no_place;
      edgecount = 0;
      edges = replicate 32 no_edge;
    }

band_reads : read_of band_text ≡ accepted band_pattern
unfolding read_text band_text band_pattern
band_reads = refl

band_writes : render_of band_pattern ≡ band_text
unfolding read_text band_text band_pattern
band_writes = refl

-- document 01's reader knows no band, and reads its own example
band_before : read_signed band_text ≡ refused BrokenForm
unfolding read_text band_text signed_place signed_line signed_lines read_signed
band_before = refl

reads_before : (w : Weighing) → read_signed (example_text w) ≡ accepted (example w)
unfolding read_text signed_place signed_line signed_lines read_signed
reads_before Margin = refl
reads_before Sum = refl

-- a place with these tests, in a pattern with one channel and one clock
place_with : String → Answer
unfolding read_text
place_with tests = read_of (bytes "(pattern sum 1 1 1 4)\n(place both" ++ bytes tests ++ bytes ")\n")

-- a low above its high is out of range; so is an end past 1,000,000; equal ends are fine
band_turned : place_with " (in 0 7 6)" ≡ refused OutOfRange
unfolding read_text place_with
band_turned = refl

band_end : place_with " (in 0 7 1000001)" ≡ refused OutOfRange
unfolding read_text place_with
band_end = refl

band_equal : is_accepted (place_with " (in 0 7 7)") ≡ true
unfolding read_text place_with is_accepted
band_equal = refl

-- four bands are four tests, a fifth is one too many, whatever else is wrong with it
band_four : is_accepted (place_with " (in 0 1 2) (in 0 1 2) (in 0 1 2) (in 0 1 2)") ≡ true
unfolding read_text place_with is_accepted
band_four = refl

band_fifth : place_with " (in 0 1 2) (in 0 1 2) (in 0 1 2) (in 0 1 2) (in 9 7 6)" ≡ refused TooMany
unfolding read_text place_with
band_fifth = refl

-- an unknown channel, and then a low above its high: 3 comes before 5
band_channel : place_with " (in 1 7 8)" ≡ refused UnknownIndex
unfolding read_text place_with
band_channel = refl

band_turned_channel : place_with " (in 1 7 8) (in 0 7 6)" ≡ refused OutOfRange
unfolding read_text place_with
band_turned_channel = refl

-- one end; a number too many; `-0`; a capital letter; a band in an edge
band_short : place_with " (in 0 7)" ≡ refused BrokenForm
unfolding read_text place_with
band_short = refl

band_long : place_with " (in 0 7 8 9)" ≡ refused BrokenForm
unfolding read_text place_with
band_long = refl

band_minus-zero : place_with " (in 0 -0 8)" ≡ refused BrokenForm
unfolding read_text place_with
band_minus-zero = refl

band_capital : place_with " (In 0 7 8)" ≡ refused BrokenForm
unfolding read_text place_with
band_capital = refl

band_in-edge : read_text "(pattern sum 1 1 1 4)\n(place both)\n(edge 0 0 (in 0 1 2))\n" ≡ refused BrokenForm
unfolding read_text
band_in-edge = refl
