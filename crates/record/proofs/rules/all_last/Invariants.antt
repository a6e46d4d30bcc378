-- Those so far.
use mathlib.Core.Path.{◌≡◌}
use lib.ListN.{take}
use Rattle.pattern.specs.Slots.{all}
use lib.Dec.{leb}
use Rattle.record.proofs.rules.all_last.Given as goal

abbrev pub invariant-loop-duration : goal.invariant-loop-duration
invariant-loop-duration l = l.fine ≡ all (leb 1) (take l.duration-index l.durations)
