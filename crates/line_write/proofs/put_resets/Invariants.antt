-- The flags before the clock are put.
use Rattle.line_write.proofs.ResetLaws.{Passed}
use Rattle.line_write.proofs.put_resets.Given as goal

abbrev pub invariant-loop-clock : goal.invariant-loop-clock
invariant-loop-clock l = Passed l.initial.out l.out l.begun l.clock l.resets
