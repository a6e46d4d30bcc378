-- `read_side` meets its contract: part by part.
use Rattle.std.proofs.Common.{◌≡◌, ◌∙◌, min, arith}
use Rattle.pattern.specs.Sound.{bounded}
use Rattle.pattern_text.specs.Bytes.{got}
use Rattle.pattern_text.specs.Form.{◌◂◌, ◌⨾◌, number}
use Rattle.pattern_text.specs.Line.{side_test}
use Rattle.text_scan.proofs.Integers.{held_back}
use Rattle.text_scan.proofs.Answered.{met, unmet}
use Rattle.line_parts.proofs.read_side.Goals as goal

pub returns-in_err-sign : goal.returns-in_err-sign
unfolding side_test ◌⨾◌ ◌◂◌ number
returns-in_err-sign c = rw (c.from_residual.ensures, ← c.in_err-sign.ensures)

pub returns-in_err-channel : goal.returns-in_err-channel
unfolding side_test ◌⨾◌ ◌◂◌ number
returns-in_err-channel c = rw (c.from_residual-in_err-channel.ensures, ← c.in_ok-sign.ensures, unmet _ _ c.in_err-channel.ensures)

pub returns-in_err-rest : goal.returns-in_err-rest
unfolding side_test ◌⨾◌ ◌◂◌ number
returns-in_err-rest c =
    rw (c.from_residual-in_err-rest.ensures, ← c.in_ok-sign.ensures, (met _ _ c.in_ok-channel.ensures).is, ← c.in_err-rest.ensures)

pub returns-in_err-bound : goal.returns-in_err-bound
unfolding side_test ◌⨾◌ ◌◂◌ number
returns-in_err-bound c =
    rw (c.from_residual-in_err-bound.ensures, ← c.in_ok-sign.ensures, (met _ _ c.in_ok-channel.ensures).is, ← c.in_ok-rest.ensures, unmet _ _ c.in_err-bound.ensures)

pub returns-in_err-rest-2 : goal.returns-in_err-rest-2
unfolding side_test ◌⨾◌ ◌◂◌ number
returns-in_err-rest-2 c =
    rw (c.from_residual-in_err-rest-2.ensures, ← c.in_ok-sign.ensures, (met _ _ c.in_ok-channel.ensures).is, ← c.in_ok-rest.ensures, (met _ _ c.in_ok-bound.ensures).is, ← c.in_err-rest-2.ensures)

pub returns : goal.returns
unfolding side_test ◌⨾◌ ◌◂◌ number
returns c =
    let k = met _ _ c.in_ok-channel.ensures in
    let b = met _ _ c.in_ok-bound.ensures in
    let small : c.min-channel.result ≡ min 255 k.raw = omega (arith, k.made, c.min-channel.ensures) in
    rw (← c.in_ok-sign.ensures, (met _ _ c.in_ok-channel.ensures).is, ← c.in_ok-rest.ensures, (met _ _ c.in_ok-bound.ensures).is, ← c.in_ok-rest-2.ensures)
    (λ i. got (bounded c.in_ok-sign.sign (small i) ((held_back _ b.raw b.made ∙ b.made) i)) c.in_ok-rest-2.rest.now)
