-- The step's lines stand at the buffer's front.
use Rattle.std.proofs.Common.{rules}
use Rattle.watch_steps.proofs.Steps.{stepped}
use Rattle.watch_steps.proofs.next.Goals as goal

pub returns : goal.returns
returns c = stepped c.new-lines.ensures c.requires.1 c.put_step-watch.ensures (search rules)
