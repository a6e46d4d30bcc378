use Rattle.pattern.specs.Sound.{edge_sound}
use Rattle.pattern.proofs.slots.edge_sound.Goals as goal

pub returns : goal.returns
unfolding edge_sound
returns c = rw (c.resets_sound.ensures, c.guards_sound.ensures)
