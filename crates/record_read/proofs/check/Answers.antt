-- `check` meets its contract: 1, or what the walk over the lines ends with.
use Rattle.std.proofs.Common.{length, arith}
use borrow.Author.Tests.{le-ltb}
use Rattle.record_text.specs.Text.{record_refusal}
use Rattle.record_read.proofs.check.Goals as goal

pub check_lines-requires : goal.check_lines-requires
check_lines-requires c = omega arith

pub returns-clause-value : goal.returns-clause-value
unfolding record_refusal
returns-clause-value c = rw (le-ltb 16_384 (length c.args.text.now) (omega arith)) c.check_lines.ensures
