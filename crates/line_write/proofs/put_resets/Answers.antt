-- One more flag is put.
use Rattle.std.proofs.Common.{◌≡◌, arith, refl}
use Rattle.text_put.proofs.PutLaws.{puts_none, puts_then}
use Rattle.line_write.specs.Resets.{before_clock}
use Rattle.line_write.proofs.ResetLaws.{passed_none, passed-reset, passed-kept, passed-all}
use Rattle.line_write.proofs.put_resets.Goals as goal
use Rattle.line_write.proofs.put_resets.Goals.{then-reset, then-begun, else-begun, else-reset}

pub loop-clock-init : goal.loop-clock-init
loop-clock-init c = passed_none _ _

pub loop-clock-preserved : goal.loop-clock-preserved
loop-clock-preserved c =
    elim c.if-reset.branch [
      | then-reset w ↦
          let before : w.if-begun.word.now ≡ before_clock c.loop-clock.begun = elim w.if-begun.branch [
            | then-begun v ↦ rw (v.word-is, v.if-begun.true) refl
            | else-begun v ↦ rw (v.word-is, v.if-begun.false) refl
          ] in
          rw (w.out-is, w.begun-is)
          (passed-reset c.loop-clock.clock _ (omega arith) w.if-reset.true c.loop-clock.invariant (puts_then (rw before at w.word.ensures) w.number.ensures))
      | else-reset w ↦ rw (w.out-is, w.begun-is) (passed-kept c.loop-clock.clock _ (omega arith) w.if-reset.false c.loop-clock.invariant)
    ]

pub returns-then-begun-2 : goal.returns-then-begun-2
returns-then-begun-2 c =
    passed-all c.loop-clock.clock _ (omega arith) c.loop-clock.invariant (rw c.if-begun-2.true c.byte.ensures)

pub returns-else-begun-2 : goal.returns-else-begun-2
returns-else-begun-2 c =
    passed-all c.loop-clock.clock _ (omega arith) c.loop-clock.invariant (rw c.if-begun-2.false (puts_none _))
