use Rattle.pattern.specs.Sound.{test_known, test_sound}
use Rattle.pattern.proofs.slots.test_sound.Goals as goal

pub returns : goal.returns
unfolding test_sound test_known
returns c = rw (c.test_in_range.ensures, c.unsaid_zero.ensures)
