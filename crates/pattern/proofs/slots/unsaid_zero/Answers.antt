use Rattle.std.proofs.Common.{rules}
use Rattle.std.specs.Int.{w32}
use mir.Val.{SFits}
use Rattle.pattern.specs.Sound.{unsaid_zero}
use Rattle.pattern.proofs.BoundLaws.{null_bits}
use Rattle.pattern.proofs.slots.unsaid_zero.Goals as goal

pub returns-then-t : goal.returns-then-t
unfolding unsaid_zero
returns-then-t c = rw c.if-t.true (search rules)

pub returns-else-t : goal.returns-else-t
unfolding unsaid_zero
returns-else-t c =
    let h_fits : SFits w32 c.args.t.high = record { sfits = c.well_formed.0.1.1.1.1.1.1.0.1 } in
    rw (c.if-t.false, null_bits c.args.t.high h_fits)
