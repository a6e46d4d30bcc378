-- The reports are looked at one by one.
use Rattle.std.proofs.Common.{rules, ◌≡◌, refl, suc, ◌+◌, ◌-◌, arith, to_z, of_z}
use Rattle.std.specs.Int.{w64}
use Rattle.std.specs.Iterator.Adapters.{zip_first}
use Rattle.best.specs.Search.{chosen_past}
use Rattle.best.proofs.Reports.{one-more}
use Rattle.best.proofs.choose_all.Goals as goal

pub loop-tick-init : goal.loop-tick-init
unfolding chosen_past
loop-tick-init c =
    let begun : c.args.ticks - c.args.ticks ≡ 0 = omega arith in
    rw (c.into_iter-tick-iterator.ensures.into_iter_gives, c.zip-tick-items.ensures.first, c.zip.ensures.first, begun)
    ((omega arith, omega arith, refl, c.zip.ensures.second.0, c.zip-tick-items.ensures.second.0), refl)

pub loop-tick-preserved : goal.loop-tick-preserved
unfolding chosen_past
loop-tick-preserved c =
    let l = c.loop-tick in
    let s = rw c.in-Some.is at c.next.ensures.steps in
    let n = c.args.ticks in
    let at = (zip_first (zip_first l.tick-iterator)).start in
    let begun = l.invariant.0.0 in
    let step = s.0.0.1 in
    let more = one-more _ _ _ _ _ _ _ _ _ _ _ _ _ _ l.invariant.0 s.0.0.0 step.0 step.2 s.0.1 s.1 in
    let next : (zip_first (zip_first c.next.new.self)).start - n ≡ suc (at - n) = omega (arith, step.2) in
    let tick : c.in-Some.tick + 1 ≡ n + (at - n) + 1 = omega (arith, step.1) in
    let back : to_z w64 (of_z w64 c.in-Some.score.now) ≡ c.in-Some.score.now = search rules in
    (more.0, rw (next, c.choose-best.ensures, back, l.invariant.1, tick, more.1, more.2))
