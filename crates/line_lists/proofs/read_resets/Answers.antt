-- `read_resets` meets its contract.
use Rattle.line_lists.proofs.ResetsLaws.{resets_are}
use Rattle.line_lists.proofs.read_resets.Goals as goal

pub returns : goal.returns
returns c = rw (c.unwrap_or.ensures, c.none.ensures) (resets_are c.args.clocks c.args.text c.read_bracket.result c.read_bracket.ensures)
