-- Step by step, and each brings the end nearer.
use Prim.Native.Nat.{◌≤◌}
use mathlib.Core.Path.{◌≡◌}
use lib.ListN.{length}
use Rattle.watch_steps.specs.Steps.{steps_left, Standing}
use Rattle.watch.proofs.show_all.Given as goal

abbrev pub invariant-loop-now : goal.invariant-loop-now
invariant-loop-now l =
    Standing l.text l.now l.first l.second × (4096 ≤ length l.out) × (length l.first ≡ length l.initial.first) × (length l.second ≡ length l.initial.second) × (length l.out ≡ length l.initial.out)

abbrev pub decreases-loop-now : goal.decreases-loop-now
decreases-loop-now l = steps_left l.text l.now
