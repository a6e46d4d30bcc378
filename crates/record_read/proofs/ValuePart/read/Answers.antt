-- A value is read as its form says.
use Rattle.std.proofs.Common.{◌∙◌}
use Rattle.pattern_text.specs.Bytes.{got}
use Rattle.pattern_text.specs.Form.{◌▸◌}
use Rattle.record_text.specs.Piece.{value}
use Rattle.text_scan.proofs.Answered.{met, unmet}
use Rattle.text_scan.proofs.Integers.{held_back}
use Rattle.record_read.proofs.ValuePart.read.Goals as goal

pub returns-in_err-read_word : goal.returns-in_err-read_word
unfolding value ◌▸◌
returns-in_err-read_word c = rw (c.from_residual.ensures, ← c.in_err-read_word.ensures)

pub returns-in_err-value : goal.returns-in_err-value
unfolding value ◌▸◌
returns-in_err-value c = rw (c.from_residual-in_err-value.ensures, ← c.in_ok-read_word.ensures, unmet _ _ c.in_err-value.ensures)

pub returns : goal.returns
unfolding value ◌▸◌
returns c =
    let k = met _ _ c.in_ok-value.ensures in
    rw (← c.in_ok-read_word.ensures, k.is) (λ i. got (record { 0 = (held_back _ k.raw k.made ∙ k.made) i }) c.in_ok-value.rest.now)
