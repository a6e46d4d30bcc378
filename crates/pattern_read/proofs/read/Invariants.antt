-- At each turn the walk stands where the definition's reading stands.
use Rattle.std.proofs.Common.{◌≡◌, ◌-◌, length, drop}
use mathlib.Core.Option.{none}
use Rattle.pattern_text.specs.Text.{lines_of, read_lines}
use Rattle.pattern_read.proofs.Walking.{Stands}
use Rattle.pattern_read.proofs.read.Given as goal

abbrev pub invariant-loop-reader : goal.invariant-loop-reader
invariant-loop-reader l = record {
  lent : l.reader.text.now ≡ l.text;
  stands : Stands (read_lines none (lines_of l.text)) l.pattern (drop l.reader.at l.text);
}

abbrev pub decreases-loop-reader : goal.decreases-loop-reader
decreases-loop-reader l = length l.text - l.reader.at
