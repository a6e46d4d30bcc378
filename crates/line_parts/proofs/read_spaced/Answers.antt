-- `read_spaced` meets its contract.
use Rattle.pattern_text.specs.Form.{◌▸◌, number}
use Rattle.line_parts.proofs.read_spaced.Goals as goal

pub returns-in_err-read_word : goal.returns-in_err-read_word
unfolding ◌▸◌
returns-in_err-read_word c = rw (c.from_residual.ensures, ← c.in_err-read_word.ensures)

pub returns : goal.returns
unfolding ◌▸◌ number
returns c = rw (← c.in_ok-read_word.ensures) c.read_number.ensures
