-- `line_sound` meets its contract.
use Rattle.std.proofs.Common.{refl}
use Rattle.record_read.specs.Check.{line_sound}
use Rattle.record_read.proofs.line_sound.Goals as goal

pub returns : goal.returns
unfolding line_sound
returns c = rw c.from.ensures refl
