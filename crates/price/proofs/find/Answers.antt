-- `find` passes whole pieces: the begin is their total and the ticks used.
use Rattle.std.proofs.Common.{arith}
use Rattle.record.specs.Record.{total}
use Rattle.record.proofs.RecordLaws.{total-more}
use Rattle.price.proofs.find.Goals as goal

pub loop-piece-init : goal.loop-piece-init
unfolding total
loop-piece-init c = omega arith

pub loop-piece-preserved : goal.loop-piece-preserved
loop-piece-preserved c = omega (arith, total-more c.args.durations.now c.loop-piece.piece)
