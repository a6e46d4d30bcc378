-- Those so far.
use mathlib.Core.Path.{◌≡◌}
use lib.ListN.{take}
use Rattle.pattern.specs.Slots.{all}
use Rattle.record.specs.Record.{value_in_range}
use Rattle.record.proofs.rules.all_in_range.Given as goal

abbrev pub invariant-loop-value : goal.invariant-loop-value
invariant-loop-value l = l.fine ≡ all value_in_range (take l.value-index l.values)
