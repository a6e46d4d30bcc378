-- `steps_of` makes a step of each edge, one after the other.
use Prim.Native.Nat.{ℕ, ◌<◌}
use mathlib.Core.Path.{◌≡◌}
use lib.ListN.{length}
use Rattle.steps.specs.Steps.{edge_in, step_in}
use Rattle.steps.specs.Made.{step_of}
use Rattle.steps.proofs.steps_of.Given as goal

abbrev pub invariant-loop-i : goal.invariant-loop-i
invariant-loop-i l = (length l.steps ≡ 32) × ((j : ℕ) → j < l.i → step_in l.steps j ≡ step_of (edge_in l.fn.edges j))
