-- One more is put.
use Rattle.text_put.proofs.PutLaws.{many-none, many-next}
use Rattle.line_write.proofs.put_all.Goals as goal

pub loop-x-init : goal.loop-x-init
loop-x-init g c = many-none g.T.Form.text _ c.args.all.now

pub loop-x-preserved : goal.loop-x-preserved
loop-x-preserved g c =
    many-next g.T.Form.text c.args.all.now c.loop-x.x-index c.x-item.result c.loop-x-test.true c.loop-x.invariant (rw c.x-item.is at c.put.ensures)
