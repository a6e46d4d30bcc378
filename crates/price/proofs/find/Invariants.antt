-- `find` passes whole pieces: the begin is their total and the ticks used.
use Rattle.std.proofs.Common.{◌≡◌, ◌+◌, take}
use Rattle.record.specs.Record.{total}
use Rattle.price.proofs.find.Given as goal

abbrev pub invariant-loop-piece : goal.invariant-loop-piece
invariant-loop-piece l = l.begin ≡ total (take l.piece l.durations) + l.used
