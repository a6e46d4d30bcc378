use Rattle.std.proofs.Common.{rules}
use Rattle.pattern.specs.Sound.{bound_in_range}
use Rattle.pattern.proofs.slots.bound_in_range.Goals as goal

pub returns : goal.returns
unfolding bound_in_range
returns c = search rules
