-- One byte: it fits, or nothing changes.
use Rattle.std.proofs.Common.{refl}
use Rattle.text_put.proofs.PutLaws.{put_one, put_full}
use Rattle.text_put.proofs.Writer.byte.Goals as goal

pub returns-then-self : goal.returns-then-self
returns-then-self c = record { same = refl; put = put_one _ _ _ c.if-self.true }

pub returns-else-self : goal.returns-else-self
returns-else-self c = record { same = refl; put = put_full _ _ _ c.if-self.false }
