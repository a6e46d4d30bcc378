-- A guard, part by part.
use Rattle.std.proofs.Common.{append_assoc}
use Rattle.pattern_text.specs.Form.{◌⨾◌, ◌◂◌, mapped, one_of, number}
use Rattle.pattern_text.specs.Line.{sign, guard}
use Rattle.text_put.proofs.PutLaws.{puts_then}
use Rattle.line_write.proofs.GuardForm.put.Goals as goal

pub returns : goal.returns
unfolding guard mapped ◌⨾◌ ◌◂◌ sign one_of number
returns c =
    let n = rw c.from.ensures at c.number.ensures in
    let m = rw c.from-2.ensures at c.number-2.ensures in
    simp append_assoc (puts_then c.put_word.ensures (puts_then n (puts_then c.byte.ensures (puts_then m c.byte-2.ensures))))
