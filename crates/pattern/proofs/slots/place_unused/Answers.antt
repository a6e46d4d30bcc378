use Rattle.std.proofs.Common.{rules}
use Rattle.pattern.specs.Sound.{test_unused, place_unused, place_sound}
use Rattle.pattern.proofs.SlotLaws.{none_used}
use Rattle.pattern.proofs.slots.place_unused.Goals as goal

pub returns : goal.returns
unfolding place_unused place_sound
returns c =
    let l = c.args.l in
    rw (c.place_sound.ensures, none_used _ test_unused test_unused 4 l.count l.tests c.eq.result) (search rules)
