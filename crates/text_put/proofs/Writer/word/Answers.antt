-- One more byte is put.
use Rattle.text_put.proofs.PutLaws.{puts_none, puts_next}
use Rattle.text_put.proofs.Writer.word.Goals as goal

pub loop-b-init : goal.loop-b-init
loop-b-init c = puts_none _

pub loop-b-preserved : goal.loop-b-preserved
loop-b-preserved c =
    puts_next _ c.loop-b.b-index c.loop-b-test.true c.loop-b.invariant c.byte.ensures
