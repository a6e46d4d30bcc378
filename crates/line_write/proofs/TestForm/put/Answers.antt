-- A test of either form, part by part.
use Rattle.std.proofs.Common.{◌≡◌, ℤ, append_assoc, w32, w64, rules, to_z, of_z}
use mir.Val.{SFits}
use Rattle.integers.proofs.Casts.{widen_back}
use Rattle.pattern_text.specs.Form.{◌▸◌, ◌⨾◌, ◌◂◌, mapped, either, one_of, number, integer}
use Rattle.pattern_text.specs.Line.{sign, side_test, band_test, test}
use Rattle.text_put.proofs.PutLaws.{puts_then}
use Rattle.line_write.proofs.TestForm.put.Goals as goal

-- a bound that was widened, as it is read back
widened : (z : ℤ) {r : ℤ} → SFits w32 z → r ≡ to_z w32 (of_z w32 z) → to_z w64 (of_z w64 r) ≡ z
widened z p e = rw e (widen_back z p)

pub returns-then-self : goal.returns-then-self
unfolding test mapped either band_test ◌▸◌ ◌⨾◌ ◌◂◌ number integer
returns-then-self c =
    let t = c.args.self.now in
    let channel = rw c.from.ensures at c.number.ensures in
    let low = rw (widened t.bound (search rules) c.from-then-self.ensures) at c.integer.ensures in
    let high = rw (widened t.high (search rules) c.from-then-self-2.ensures) at c.integer-then-self.ensures in
    rw c.if-self.true (simp append_assoc
    (puts_then c.word.ensures (puts_then channel (puts_then c.byte.ensures
    (puts_then low (puts_then c.byte-then-self.ensures (puts_then high c.byte-then-self-2.ensures)))))))

pub returns-else-self : goal.returns-else-self
unfolding test mapped either side_test ◌⨾◌ ◌◂◌ sign one_of number integer
returns-else-self c =
    let t = c.args.self.now in
    let channel = rw c.from-else-self.ensures at c.number-else-self.ensures in
    let bound = rw (widened t.bound (search rules) c.from-else-self-2.ensures) at c.integer-else-self.ensures in
    rw c.if-self.false (simp append_assoc
    (puts_then c.put_word.ensures (puts_then channel (puts_then c.byte-else-self.ensures
    (puts_then bound c.byte-else-self-2.ensures)))))
