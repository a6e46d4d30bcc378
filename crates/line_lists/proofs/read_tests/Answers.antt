-- `read_tests` meets its contract.
use Rattle.std.proofs.Common.{◌∙◌, arith}
use Rattle.line_lists.proofs.PartsLaws.{tests_are}
use Rattle.line_lists.proofs.read_tests.Goals as goal

pub returns : goal.returns
returns c = let f = c.ranges.channels in c.read_parts.ensures ∙ tests_are c.args.channels (omega arith) c.args.text.now
