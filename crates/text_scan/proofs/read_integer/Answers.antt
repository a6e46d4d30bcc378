-- `read_integer` meets its contract.
use Rattle.text_scan.proofs.Integers.{integer_plain, integer_none, integer_minus}
use Rattle.text_scan.proofs.read_integer.Goals as goal

pub returns-in-Some : goal.returns-in-Some
returns-in-Some c = integer_plain _ _ _ c.in-Some.ensures

pub returns-in_err-read_word : goal.returns-in_err-read_word
returns-in_err-read_word c = rw c.from_residual.ensures (integer_none _ c.in_default.ensures c.in_err-read_word.ensures)

pub returns : goal.returns
returns c = integer_minus _ _ _ c.in_default.ensures c.in_ok-read_word.ensures c.read_negative.ensures
