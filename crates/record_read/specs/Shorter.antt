-- A value that was read leaves less than there was.
use Rattle.std.specs.Prelude.{◌≡◌, ◌<◌, length}
use Rattle.pattern_text.specs.Bytes.{Bytes, got}
use Rattle.pattern_text.specs.Form.{giving}
use Rattle.pattern_text.proofs.FormLaws.{giving_inv}
use Rattle.text_scan.proofs.Shorter.{shrinks}
use Rattle.record_text.specs.Piece.{value}
use Rattle.record_read.specs.declared.Value.{Value}
use Rattle.record_read.specs.Line.{held_value}
use Rattle.record_text.proofs.LineLaws.{value_exact, value-long}

pub value_shorter : (b : Bytes) (a : Value) (r : Bytes) → giving held_value (value.read b) ≡ got a r → length r < length b
value_shorter b a r e = giving_inv held_value (value.read b) a r e (λ x p _. shrinks value_exact value-long b x r p)
