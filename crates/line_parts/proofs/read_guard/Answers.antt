-- `read_guard` meets its contract: part by part.
use Rattle.std.proofs.Common.{◌≡◌, min, arith}
use Rattle.pattern_text.specs.Bytes.{got}
use Rattle.pattern_text.specs.Form.{mapped, ◌◂◌, ◌⨾◌, number}
use Rattle.pattern_text.specs.Line.{guard}
use Rattle.text_scan.proofs.Answered.{met, unmet}
use Rattle.line_parts.proofs.Spaced.{spaced_there, unspaced}
use Rattle.line_parts.proofs.read_guard.Goals as goal

pub returns-in_err-sign : goal.returns-in_err-sign
unfolding guard mapped ◌⨾◌ ◌◂◌ number
returns-in_err-sign c = rw (c.from_residual.ensures, ← c.in_err-sign.ensures)

pub returns-in_err-clock : goal.returns-in_err-clock
unfolding guard mapped ◌⨾◌ ◌◂◌ number
returns-in_err-clock c = rw (c.from_residual-in_err-clock.ensures, ← c.in_ok-sign.ensures, unmet _ _ c.in_err-clock.ensures)

pub returns-in_err-bound : goal.returns-in_err-bound
unfolding guard mapped ◌⨾◌ ◌◂◌ number
returns-in_err-bound c =
    unspaced c.in_ok-clock.rest.now (unmet _ _ c.in_err-bound.ensures)
    (λ h. rw (c.from_residual-in_err-bound.ensures, ← c.in_ok-sign.ensures, (met _ _ c.in_ok-clock.ensures).is, h))
    (λ s h n. rw (c.from_residual-in_err-bound.ensures, ← c.in_ok-sign.ensures, (met _ _ c.in_ok-clock.ensures).is, h, n))

pub returns-in_err-rest : goal.returns-in_err-rest
unfolding guard mapped ◌⨾◌ ◌◂◌ number
returns-in_err-rest c =
    let b = spaced_there _ _ _ (met _ _ c.in_ok-bound.ensures).is in
    rw (
      c.from_residual-in_err-rest.ensures,
      ← c.in_ok-sign.ensures,
      (met _ _ c.in_ok-clock.ensures).is,
      b.space,
      b.digits,
      ← c.in_err-rest.ensures,
    )

pub returns : goal.returns
unfolding guard mapped ◌⨾◌ ◌◂◌ number
returns c =
    let k = met _ _ c.in_ok-clock.ensures in
    let b = met _ _ c.in_ok-bound.ensures in
    let s = spaced_there _ _ _ b.is in
    let small : c.min-clock.result ≡ min 255 k.raw = omega (arith, k.made, c.min-clock.ensures) in
    let low : c.min-bound.result ≡ min 65_535 b.raw = omega (arith, b.made, c.min-bound.ensures) in
    rw (← c.in_ok-sign.ensures, (met _ _ c.in_ok-clock.ensures).is, s.space, s.digits, ← c.in_ok-rest.ensures)
    (λ i. got (record { sign = c.in_ok-sign.sign; clock = small i; bound = low i }) c.in_ok-rest.rest.now)
