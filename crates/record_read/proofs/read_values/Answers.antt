-- `read_values` meets its contract.
use Rattle.std.proofs.Common.{◌∙◌}
use Rattle.record_read.proofs.ValuesLaws.{values_are}
use Rattle.record_read.proofs.read_values.Goals as goal

pub returns : goal.returns
returns c = c.read_parts.ensures ∙ values_are c.args.text.now
