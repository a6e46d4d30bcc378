-- `read_digits` meets its contract: the digits that are left, after what was passed, give the same.
use Rattle.std.proofs.Common.{◌≡◌, ◌≤◌, min, length}
use Rattle.pattern_text.specs.Numeral.{front, after, value_from}
use Rattle.text_scan.proofs.read_digits.Given as goal

abbrev pub invariant-loop-digit : goal.invariant-loop-digit
invariant-loop-digit l = record {
  small : l.sum ≤ l.most;
  worth : min l.most (value_from l.value (front l.text)) ≡ min l.most (value_from l.sum (front l.rest));
  left : after l.text ≡ after l.rest;
}

abbrev pub decreases-loop-digit : goal.decreases-loop-digit
decreases-loop-digit l = length l.rest
