-- `stay_in` goes through piece after piece: the end, and the worth there, stay the same.
use Rattle.std.proofs.Common.{arith, refl}
use Rattle.price_stays.proofs.WalkLaws.{far_none, far-more, far-all}
use Rattle.price_stays.proofs.stay_in.Goals as goal

pub loop-at-init : goal.loop-at-init
loop-at-init c =
    let a = c.args in
    far_none a.weighing a.place a.channels a.lent.durations.now a.lent.values.now a.s.piece a.s c.requires

pub through-at-requires : goal.through-at-requires
through-at-requires c = record { walks = c.loop-at.invariant.walks; left_nonzero = omega arith }

pub loop-at-smaller : goal.loop-at-smaller
loop-at-smaller c = c.through-at.ensures.less

pub loop-at-preserved : goal.loop-at-preserved
loop-at-preserved c =
    let a = c.args in
    far-more a.weighing a.place a.channels a.lent.durations.now a.lent.values.now a.s.piece a.s c.loop-at.at c.through-at.result c.loop-at.invariant c.through-at.ensures

pub returns : goal.returns
returns c =
    let a = c.args in
    far-all a.weighing a.place a.channels a.lent.durations.now a.lent.values.now a.s.piece a.s c.loop-at.at refl c.loop-at.invariant (omega (arith, c.loop-at-test.false))
