-- The first ones are put.
use Rattle.std.proofs.Common.{take}
use Rattle.pattern_text.specs.Form.{write_many}
use Rattle.text_put.specs.Put.{Puts}
use Rattle.line_write.proofs.put_all.Given as goal

abbrev pub invariant-loop-x : goal.invariant-loop-x
invariant-loop-x g l = Puts l.initial.out l.out (write_many g.T.Form.text (take l.x-index l.all))
