use mir.Syntax.{w32}
use mir.Val.{SFits}
use mir.Facts.{to_z-of_z}
use Rattle.pattern.specs.Sound.{test_in_range}
use Rattle.pattern.proofs.slots.test_in_range.Goals as goal

pub returns-then-t : goal.returns-then-t
unfolding test_in_range
returns-then-t c =
    let low : SFits w32 c.args.t.bound = record { sfits = c.well_formed.0.1.1.1.1.1.0.1 } in
    let high : SFits w32 c.args.t.high = record { sfits = c.well_formed.0.1.1.1.1.1.1.0.1 } in
    rw c.if-t.true (simp (to_z-of_z low, to_z-of_z high) at c.band_in_range.ensures)

pub returns-else-t : goal.returns-else-t
unfolding test_in_range
returns-else-t c =
    let low : SFits w32 c.args.t.bound = record { sfits = c.well_formed.0.1.1.1.1.1.0.1 } in
    rw c.if-t.false (simp (to_z-of_z low) at c.bound_in_range.ensures)
