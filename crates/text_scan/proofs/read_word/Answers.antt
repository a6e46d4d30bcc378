-- `read_word` meets its contract.
use Rattle.text_scan.proofs.Words.{word_is}
use Rattle.text_scan.proofs.read_word.Goals as goal

pub returns : goal.returns
returns c = word_is _ _ _ c.strip_prefix.ensures.cases
