use Rattle.std.proofs.Common.{rules}
use Rattle.pattern.specs.Sound.{place_sound}
use Rattle.pattern.proofs.slots.place_sound.Goals as goal

pub returns : goal.returns
unfolding place_sound
returns c = search rules
