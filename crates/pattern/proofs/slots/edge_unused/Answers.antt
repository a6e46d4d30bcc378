use mathlib.Core.Path.{refl}
use mathlib.Core.Bool.{◌&&◌}
use lib.Dec.{eqb}
use Rattle.pattern.specs.Sound.{guard_unused, edge_unused}
use Rattle.pattern.specs.Slots.{slots}
use Rattle.pattern.proofs.SlotLaws.{none_used}
use Rattle.pattern.proofs.slots.edge_unused.Goals as goal

pub returns : goal.returns
unfolding edge_unused slots
returns c =
    let e = c.args.e in
    rw (c.resets_sound.ensures, c.guards_sound.ensures, none_used _ guard_unused guard_unused 4 e.count e.guards (eqb e.from 0 && eqb e.to 0))
    refl
