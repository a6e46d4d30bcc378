-- A part that was read leaves less than there was: what the trait asks of each.
use Rattle.std.specs.Prelude.{◌≡◌, ◌<◌, length}
use Rattle.pattern.specs.declared.Test.{Test}
use Rattle.pattern.specs.declared.Guard.{Guard}
use Rattle.pattern_text.specs.Bytes.{Bytes, got}
use Rattle.pattern_text.specs.Form.{giving}
use Rattle.pattern_text.specs.Line.{test, guard}
use Rattle.pattern_text.proofs.FormLaws.{giving_inv}
use Rattle.pattern_text.proofs.LineLaws.{test_exact, test-long, guard_exact, guard-long}
use Rattle.text_scan.proofs.Shorter.{shrinks}
use Rattle.line_parts.specs.Parts.{held_raw, held_guard}

pub test_shorter : (b : Bytes) (a : Test) (r : Bytes) → giving held_raw (test.read b) ≡ got a r → length r < length b
test_shorter b a r e = giving_inv held_raw (test.read b) a r e (λ x p _. shrinks test_exact test-long b x r p)

pub guard_shorter : (b : Bytes) (a : Guard) (r : Bytes) → giving held_guard (guard.read b) ≡ got a r → length r < length b
guard_shorter b a r e = giving_inv held_guard (guard.read b) a r e (λ x p _. shrinks guard_exact guard-long b x r p)
