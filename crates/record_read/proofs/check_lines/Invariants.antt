-- `check_lines` walks with one reader from line to line; some lines are walked over, and the reader has the others left.
use Rattle.std.proofs.Common.{◌-◌, length, drop}
use Rattle.record_read.proofs.Walking.{Stands}
use Rattle.record_read.proofs.check_lines.Given as goal

abbrev pub invariant-loop-r : goal.invariant-loop-r
invariant-loop-r l = Stands l.channels l.text (drop l.r.at l.r.text.now) l.s

abbrev pub decreases-loop-r : goal.decreases-loop-r
decreases-loop-r l = length l.r.text.now - l.r.at
