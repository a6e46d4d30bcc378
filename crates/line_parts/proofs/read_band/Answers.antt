-- `read_band` meets its contract: part by part.
use Rattle.std.proofs.Common.{◌≡◌, ◌∙◌, min, arith}
use Rattle.pattern.specs.Sound.{banded}
use Rattle.pattern_text.specs.Bytes.{got}
use Rattle.pattern_text.specs.Form.{◌▸◌, ◌◂◌, ◌⨾◌, number}
use Rattle.pattern_text.specs.Line.{band_test}
use Rattle.text_scan.proofs.Integers.{held_back}
use Rattle.text_scan.proofs.Answered.{met, unmet}
use Rattle.line_parts.proofs.read_band.Goals as goal

pub returns-in_err-rest : goal.returns-in_err-rest
unfolding band_test ◌▸◌ ◌⨾◌ ◌◂◌ number
returns-in_err-rest c = rw (c.from_residual.ensures, ← c.in_err-rest.ensures)

pub returns-in_err-channel : goal.returns-in_err-channel
unfolding band_test ◌▸◌ ◌⨾◌ ◌◂◌ number
returns-in_err-channel c = rw (c.from_residual-in_err-channel.ensures, ← c.in_ok-rest.ensures, unmet _ _ c.in_err-channel.ensures)

pub returns-in_err-rest-2 : goal.returns-in_err-rest-2
unfolding band_test ◌▸◌ ◌⨾◌ ◌◂◌ number
returns-in_err-rest-2 c =
    rw (c.from_residual-in_err-rest-2.ensures, ← c.in_ok-rest.ensures, (met _ _ c.in_ok-channel.ensures).is, ← c.in_err-rest-2.ensures)

pub returns-in_err-low : goal.returns-in_err-low
unfolding band_test ◌▸◌ ◌⨾◌ ◌◂◌ number
returns-in_err-low c =
    rw (c.from_residual-in_err-low.ensures, ← c.in_ok-rest.ensures, (met _ _ c.in_ok-channel.ensures).is, ← c.in_ok-rest-2.ensures, unmet _ _ c.in_err-low.ensures)

pub returns-in_err-rest-3 : goal.returns-in_err-rest-3
unfolding band_test ◌▸◌ ◌⨾◌ ◌◂◌ number
returns-in_err-rest-3 c =
    rw (c.from_residual-in_err-rest-3.ensures, ← c.in_ok-rest.ensures, (met _ _ c.in_ok-channel.ensures).is, ← c.in_ok-rest-2.ensures, (met _ _ c.in_ok-low.ensures).is, ← c.in_err-rest-3.ensures)

pub returns-in_err-high : goal.returns-in_err-high
unfolding band_test ◌▸◌ ◌⨾◌ ◌◂◌ number
returns-in_err-high c =
    rw (c.from_residual-in_err-high.ensures, ← c.in_ok-rest.ensures, (met _ _ c.in_ok-channel.ensures).is, ← c.in_ok-rest-2.ensures, (met _ _ c.in_ok-low.ensures).is, ← c.in_ok-rest-3.ensures, unmet _ _ c.in_err-high.ensures)

pub returns-in_err-rest-4 : goal.returns-in_err-rest-4
unfolding band_test ◌▸◌ ◌⨾◌ ◌◂◌ number
returns-in_err-rest-4 c =
    rw (c.from_residual-in_err-rest-4.ensures, ← c.in_ok-rest.ensures, (met _ _ c.in_ok-channel.ensures).is, ← c.in_ok-rest-2.ensures, (met _ _ c.in_ok-low.ensures).is, ← c.in_ok-rest-3.ensures, (met _ _ c.in_ok-high.ensures).is, ← c.in_err-rest-4.ensures)

pub returns : goal.returns
unfolding band_test ◌▸◌ ◌⨾◌ ◌◂◌ number
returns c =
    let k = met _ _ c.in_ok-channel.ensures in
    let l = met _ _ c.in_ok-low.ensures in
    let h = met _ _ c.in_ok-high.ensures in
    let small : c.min-channel.result ≡ min 255 k.raw = omega (arith, k.made, c.min-channel.ensures) in
    rw (← c.in_ok-rest.ensures, (met _ _ c.in_ok-channel.ensures).is, ← c.in_ok-rest-2.ensures, (met _ _ c.in_ok-low.ensures).is, ← c.in_ok-rest-3.ensures, (met _ _ c.in_ok-high.ensures).is, ← c.in_ok-rest-4.ensures)
    (λ i. got (banded (small i) ((held_back _ l.raw l.made ∙ l.made) i) ((held_back _ h.raw h.made ∙ h.made) i)) c.in_ok-rest-4.rest.now)
