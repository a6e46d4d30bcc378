-- `read_held` meets its contract.
use Rattle.std.proofs.Common.{◌≡◌, sym, ◌∙◌, ap₂, arith}
use Rattle.pattern_text.specs.Bytes.{got, broken}
use Rattle.text_scan.specs.Scan.{digit_of}
use Rattle.text_scan.proofs.Digits.{number_none, number_zero, number_is, no_digit}
use Rattle.text_scan.proofs.read_held.Goals as goal
use Rattle.text_scan.proofs.read_held.Goals.{else-first-eq0-via-then-first-eq0+else-is_some, else-first-eq0-via-else-first-eq0}

pub returns-in_err-first : goal.returns-in_err-first
returns-in_err-first c = grind (arith, number_none)

pub returns-then-is_some : goal.returns-then-is_some
returns-then-is_some c =
    rw (number_zero c.args.text.now c.in_ok-first.rest.now _ c.read_digit-then-first-eq0.result c.in_ok-first.ensures c.if-first-eq0.true c.read_digit-then-first-eq0.ensures (sym c.is_some.ensures ∙ c.if-is_some.true))

pub returns : goal.returns
returns c =
    let none : c.in_ok-first.first ≡ 0 → broken ≡ digit_of c.in_ok-first.rest.now = λ z. elim c.else-first-eq0.branch [
      | else-first-eq0-via-then-first-eq0+else-is_some w ↦ no_digit c.in_ok-first.rest.now w.read_digit-then-first-eq0.result w.read_digit-then-first-eq0.ensures (sym w.is_some.ensures ∙ w.if-is_some.false)
      | else-first-eq0-via-else-first-eq0 w ↦ absurd (w.if-first-eq0.false z)
    ] in
    rw (number_is c.args.text.now _ c.in_ok-first.rest.now c.in_ok-first.ensures none) (ap₂ got c.read_digits.ensures.value c.read_digits.ensures.left)
