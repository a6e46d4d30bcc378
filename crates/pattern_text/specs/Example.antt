-- Document 01's pattern ('Pattern text'), with either weighing: its text, and the pattern that the text is read as.
use Rattle.std.specs.Prelude.{◌∷◌, ◌++◌, true, false, replicate, pos}
use Rattle.weighting.specs.declared.Weighing.{Weighing}
use Rattle.weighting.specs.declared.Weighing.TheVariants.{Margin, Sum}
use Rattle.pattern.specs.declared.Sign.TheVariants.{Less, AtMost, More}
use Rattle.pattern.specs.declared.Kind.TheVariants.{Start, Plain, End}
use Rattle.pattern.specs.declared.Pattern.{Pattern}
use Rattle.pattern.specs.Sound.{bounded, no_test, no_place, no_guard, no_edge}
use Rattle.pattern_text.specs.Bytes.{Bytes, bytes}

-- the lines after the first
abbrev pub further_lines : Bytes
further_lines = bytes "(place start (< 0 15))\n(place plain (> 0 5))\n(place end)\n(edge 0 1 (< 0 3) (reset 0))\n(edge 1 2 (<= 0 2))\n"

abbrev pub example_text : Weighing → Bytes
example_text Margin = bytes "(pattern margin 1 1 1 4)\n" ++ further_lines
example_text Sum = bytes "(pattern sum 1 1 1 4)\n" ++ further_lines

abbrev pub example : Weighing → Pattern
example w =
    record {
      weighing = w;
      channels = 1;
      clocks = 1;
      low = 1;
      high = 4;
      placecount = 3;
      places = record { kind = Start; tests = bounded Less 0 (pos 15) ∷ replicate 3 no_test; count = 1 }
          ∷ record { kind = Plain; tests = bounded More 0 (pos 5) ∷ replicate 3 no_test; count = 1 }
          ∷ record { kind = End; tests = replicate 4 no_test; count = 0 }
          ∷ replicate 13 no_place;
      edgecount = 2;
      edges = record {
        from = 0;
        to = 1;
        guards = record { sign = Less; clock = 0; bound = 3 } ∷ replicate 3 no_guard;
        count = 1;
        resets = true ∷ replicate 3 false;
      }
          ∷ record {
            from = 1;
            to = 2;
            guards = record { sign = AtMost; clock = 0; bound = 2 } ∷ replicate 3 no_guard;
            count = 1;
            resets = replicate 4 false;
          }
          ∷ replicate 30 no_edge;
    }
