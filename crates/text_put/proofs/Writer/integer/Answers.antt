-- A number that may be negative: a minus before the number without its sign.
use Rattle.std.proofs.Common.{◌≡◌, ℕ, ◌∙◌, ap, arith, ℤ, pos, negsuc, nat_abs, [], ◌∷◌, true, false, w64}
use borrow.Author.Tests.{ltb-true}
use lib.Signed.{lt_z}
use mir.Facts.{to_z-of_z}
use Rattle.pattern_text.specs.Numeral.{decimal}
use Rattle.pattern_text.specs.Form.{write_ℤ}
use Rattle.text_put.specs.declared.Writer.{Writer}
use Rattle.text_put.specs.Put.{Puts}
use Rattle.text_put.proofs.PutLaws.{puts_then}
use Rattle.text_put.proofs.Writer.integer.Goals as goal
use Rattle.text_put.proofs.Writer.integer.Goals.{then-number-lt0, else-number-lt0}

minus : {a b c : Writer} (z : ℤ) → lt_z z (pos 0) ≡ true → Puts a b (45 ∷ []) → Puts b c (decimal (nat_abs z)) → Puts a c (write_ℤ z)
unfolding write_ℤ
minus (pos n) t p q = absurd (omega (arith, ltb-true n 0 t))
minus (negsuc n) t p q = puts_then p q

plus : {a b : Writer} (z : ℤ) → lt_z z (pos 0) ≡ false → Puts a b (decimal (nat_abs z)) → Puts a b (write_ℤ z)
unfolding write_ℤ
plus (pos n) t p = p
plus (negsuc n) t p = let z : ◌≡◌ {A = ℕ} 0 1 = cc in absurd (omega arith)

pub returns : goal.returns
returns c =
    let back = to_z-of_z {w = w64} c.ranges.number in
    let size : c.unsigned_abs.result ≡ nat_abs c.args.number = c.unsigned_abs.ensures.value ∙ ap nat_abs back in
    let digits = rw size at c.number.ensures in
    elim c.if-number-lt0.branch [
      | then-number-lt0 w ↦ minus c.args.number (rw back at w.if-number-lt0.true) w.byte.ensures (rw w.self-is at digits)
      | else-number-lt0 w ↦ plus c.args.number (rw back at w.if-number-lt0.false) (rw w.self-is at digits)
    ]
