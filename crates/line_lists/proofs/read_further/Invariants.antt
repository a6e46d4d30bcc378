-- `read_further` meets its contract: the clocks that are left, added to those so far, give the same.
use Rattle.std.proofs.Common.{◌≡◌, length}
use Rattle.pattern_text.specs.Form.{giving, many, ◌▸◌, number}
use Rattle.line_lists.specs.ResetList.{added}
use Rattle.line_lists.proofs.read_further.Given as goal

abbrev pub invariant-loop-clock : goal.invariant-loop-clock
invariant-loop-clock l =
    giving (added l.clocks l.fn.resets) ((many (" " ▸ number)).read l.text) ≡ giving (added l.clocks l.all) ((many (" " ▸ number)).read l.rest)

abbrev pub decreases-loop-clock : goal.decreases-loop-clock
decreases-loop-clock l = length l.rest
