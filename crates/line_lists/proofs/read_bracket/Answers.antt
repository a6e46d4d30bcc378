-- `read_bracket` meets its contract: part by part.
use Rattle.std.proofs.Common.{◌≡◌, min, ap, ap₂, ◌∙◌}
use Rattle.pattern_text.specs.Bytes.{got}
use Rattle.pattern_text.specs.Form.{◌▸◌, ◌◂◌, ◌⨾◌, number}
use Rattle.pattern_text.specs.Line.{bracket}
use Rattle.text_scan.specs.Scan.{cap}
use Rattle.text_scan.proofs.Answered.{met, unmet}
use Rattle.line_lists.specs.ResetList.{no_resets, add_reset, added}
use Rattle.line_lists.proofs.read_bracket.Goals as goal

pub returns-in_err-rest : goal.returns-in_err-rest
unfolding bracket ◌▸◌ ◌⨾◌ ◌◂◌ number
returns-in_err-rest c = rw (c.from_residual.ensures, ← c.in_err-rest.ensures)

pub returns-in_err-clock : goal.returns-in_err-clock
unfolding bracket ◌▸◌ ◌⨾◌ ◌◂◌ number
returns-in_err-clock c = rw (c.from_residual-in_err-clock.ensures, ← c.in_ok-rest.ensures, unmet _ _ c.in_err-clock.ensures)

pub returns-in_err-rest-2 : goal.returns-in_err-rest-2
unfolding bracket ◌▸◌ ◌⨾◌ ◌◂◌ number
returns-in_err-rest-2 c =
    rw (c.from_residual-in_err-rest-2.ensures, ← c.in_ok-rest.ensures, (met _ _ c.in_ok-clock.ensures).is, (met _ _ c.read_further.ensures).is, ← c.in_err-rest-2.ensures)

pub returns : goal.returns
unfolding bracket ◌▸◌ ◌⨾◌ ◌◂◌ number
returns c =
    let k = met _ _ c.in_ok-clock.ensures in
    let f = met _ _ c.read_further.ensures in
    let s : c.with.result ≡ add_reset c.args.clocks no_resets (min cap k.raw) = c.with.ensures ∙ ap₂ (add_reset c.args.clocks) c.none.ensures k.made in
    rw (← c.in_ok-rest.ensures, k.is, f.is, ← c.in_ok-rest-2.ensures)
    (ap (λ x. got x c.in_ok-rest-2.rest.now) (f.made ∙ ap (λ z. added c.args.clocks z f.raw) s))
