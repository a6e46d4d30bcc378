use Rattle.std.proofs.Common.{arith, ◌∙◌}
use Rattle.pattern.specs.Cells.{bounds_on, largest}
use Rattle.pattern.proofs.CeilingLaws.{guard-more}
use Rattle.pattern.proofs.clocks.largest_bound.Goals as goal

pub loop-g-init : goal.loop-g-init
unfolding bounds_on largest
loop-g-init c = omega arith

pub loop-g-preserved : goal.loop-g-preserved
loop-g-preserved c =
    let l = c.loop-g in
    let a = c.args in
    c.larger_bound-found.ensures ∙ rw l.invariant (guard-more a.clock a.most l.g-index c.in_use-g-items.result.now _ (omega arith))
