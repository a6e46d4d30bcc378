-- `span_of` narrows the span guard by guard.
use mathlib.Core.Path.{◌≡◌}
use Rattle.steps.specs.Made.{span_of}
use Rattle.steps.proofs.span_of.Given as goal

abbrev pub invariant-loop-g : goal.invariant-loop-g
invariant-loop-g l = l.s ≡ span_of l.fn.e l.clock l.g-index
