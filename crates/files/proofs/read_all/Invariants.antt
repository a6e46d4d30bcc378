-- The reading stands within the buffer.
use Rattle.std.proofs.Common.{◌≤◌, length}
use Rattle.files.proofs.read_all.Given as goal

abbrev pub invariant-loop : goal.invariant-loop
invariant-loop l = l.at ≤ length l.buffer
