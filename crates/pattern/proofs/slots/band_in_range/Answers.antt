use mir.Facts.{to_z-of_z}
use Rattle.pattern.specs.Sound.{band_in_range}
use Rattle.pattern.proofs.slots.band_in_range.Goals as goal

pub returns : goal.returns
unfolding band_in_range
returns c =
    let s = c in
    rw (c.bound_in_range.ensures, c.bound_in_range-2.ensures, to_z-of_z s.ranges.low, to_z-of_z s.ranges.high)
