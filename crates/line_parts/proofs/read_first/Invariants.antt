-- `read_first` meets its contract: none of the words so far stands there.
use Rattle.std.proofs.Common.{◌≡◌, drop}
use Rattle.pattern_text.specs.Form.{first_of}
use Rattle.line_parts.proofs.read_first.Given as goal

abbrev pub invariant-loop-value : goal.invariant-loop-value
invariant-loop-value g l = first_of g.T.Word.spelled l.values l.text ≡ first_of g.T.Word.spelled (drop l.value-index l.values) l.text
