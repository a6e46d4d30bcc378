-- A number: its last digit, after the digits of its tenth where there are any.
use Rattle.std.proofs.Common.{arith}
use Rattle.text_put.proofs.PutLaws.{put_last, put_more}
use Rattle.text_put.proofs.Writer.+number.Goals as goal
use Rattle.text_put.proofs.Writer.+number.Goals.{then-more, else-more}

pub returns : goal.returns
returns t c =
    elim c.if-more.branch [
      | then-more w ↦ put_more _ w.if-more.true w.number.ensures (rw w.self-is at c.byte.ensures)
      | else-more w ↦ put_last _ (omega arith) (rw w.self-is at c.byte.ensures)
    ]
