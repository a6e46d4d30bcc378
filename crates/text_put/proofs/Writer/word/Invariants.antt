-- The first bytes are put.
use Rattle.std.proofs.Common.{take}
use Rattle.text_put.specs.Put.{Puts}
use Rattle.text_put.proofs.Writer.word.Given as goal

abbrev pub invariant-loop-b : goal.invariant-loop-b
invariant-loop-b l = Puts l.initial.self l.self (take l.b-index l.word)
