use Rattle.std.proofs.Common.{rules}
use Rattle.pattern.specs.Sound.{guard_unused}
use Rattle.pattern.proofs.slots.guard_unused.Goals as goal

pub returns : goal.returns
unfolding guard_unused
returns c = search rules
