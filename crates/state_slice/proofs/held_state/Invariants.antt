-- The loop has read the first i values.
use mathlib.Core.Path.{◌≡◌}
use mathlib.Core.Bool.{true}
use lib.ListN.{take}
use lib.Seq.{paste}
use Rattle.pattern.specs.Slots.{all}
use Rattle.state_slice.specs.Slice.{is_value, last_in}
use Rattle.state_slice.proofs.held_state.Given as goal

abbrev pub invariant-loop-i : goal.invariant-loop-i
invariant-loop-i l = (l.last ≡ paste l.initial.last 0 (last_in l.entries) l.i) × (all is_value (take l.i (last_in l.entries)) ≡ true)
