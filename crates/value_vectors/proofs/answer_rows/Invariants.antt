-- Each line leaves less of the table.
use Rattle.std.proofs.Common.{length}
use Rattle.value_vectors.proofs.answer_rows.Given as goal

abbrev pub decreases-loop-rest : goal.decreases-loop-rest
decreases-loop-rest l = length l.rest
