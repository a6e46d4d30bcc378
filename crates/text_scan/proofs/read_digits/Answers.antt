-- `read_digits` meets its contract: the digits that are left, after what was passed, give the same.
use Rattle.std.proofs.Common.{sym, ◌∙◌, arith}
use Rattle.pattern_text.specs.Numeral.{value_from}
use Rattle.text_scan.proofs.Digits.{held_next, after_next, front_end, after_end}
use Rattle.text_scan.proofs.read_digits.Goals as goal

pub loop-digit-preserved : goal.loop-digit-preserved
loop-digit-preserved c =
    let l = c.loop-digit in
    record {
      small = omega (arith, c.held_digit-sum.ensures);
      worth = l.invariant.worth ∙ rw c.held_digit-sum.ensures (held_next c.args.most l.sum l.rest.now c.in-Some.ensures);
      left = l.invariant.left ∙ after_next l.rest.now c.in-Some.ensures;
    }

pub returns-clause-value : goal.returns-clause-value
unfolding value_from
returns-clause-value c = let l = c.loop-digit in rw (l.invariant.worth, front_end l.rest.now c.in_default.ensures) (omega (arith, l.invariant.small))

pub returns-clause-left : goal.returns-clause-left
returns-clause-left c = let l = c.loop-digit in sym (l.invariant.left ∙ after_end l.rest.now c.in_default.ensures)
