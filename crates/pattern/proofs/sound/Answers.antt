use Rattle.pattern.specs.Sound.{sound_of}
use Rattle.pattern.proofs.sound.Goals as goal

pub returns : goal.returns
unfolding sound_of
returns c = rw (c.header_sound.ensures, c.places_sound.ensures, c.edges_sound.ensures)
