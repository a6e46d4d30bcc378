-- What a form reads leaves less than there was.
use Rattle.std.proofs.Common.{◌≡◌, ℕ, ◌<◌, length, ap, arith}
use lib.ListN.{length-append}
use Rattle.pattern_text.specs.Bytes.{Bytes, got}
use Rattle.pattern_text.specs.Form.{Form, ◌▸◌, number}
use Rattle.pattern_text.proofs.FormLaws.{Exact}
use Rattle.pattern_text.proofs.LineLaws.{spaced}

-- a form that writes some bytes
pub shrinks : {A : Type 0} {f : Form A} {F : Bytes → Type 0} → Exact f F → ((a : A) → 0 < length (f.write a)) → (b : Bytes) (a : A) (r : Bytes) → f.read b ≡ got a r → length r < length b
shrinks {f = f} x long b a r e = omega (arith, long a, ap length (x.sound b a r e), length-append (f.write a) r)

spaced_long : (n : ℕ) → 0 < length ((" " ▸ number).write n)
unfolding ◌▸◌
spaced_long n = omega arith

-- a space and a number
pub spaced_shorter : (b : Bytes) (n : ℕ) (r : Bytes) → (" " ▸ number).read b ≡ got n r → length r < length b
spaced_shorter = shrinks spaced spaced_long
