-- `read_guards` meets its contract.
use Rattle.std.proofs.Common.{◌∙◌, arith}
use Rattle.line_lists.proofs.PartsLaws.{guards_are}
use Rattle.line_lists.proofs.read_guards.Goals as goal

pub returns : goal.returns
returns c = let f = c.ranges.clocks in c.read_parts.ensures ∙ guards_are c.args.clocks (omega arith) c.args.text.now
