-- The header's line, part by part.
use Rattle.std.proofs.Common.{◌≡◌, ◌++◌, append_assoc, ap, ◌∙◌}
use Rattle.pattern.specs.declared.Pattern.{Pattern}
use Rattle.pattern_text.specs.Bytes.{bytes}
use Rattle.pattern_text.specs.Numeral.{decimal}
use Rattle.pattern_text.specs.Form.{◌▸◌, ◌⨾◌, ◌◂◌, mapped, one_of, number}
use Rattle.pattern_text.specs.Line.{weighing, weighing_word, header_line, render_line}
use Rattle.pattern_text.specs.Text.{doc_of, ended}
use Rattle.text_put.proofs.PutLaws.{puts_then}
use Rattle.line_write.specs.Lines.{header_text}
use Rattle.line_write.proofs.put_header.Goals as goal

parts : (p : Pattern) → header_text p
    ≡ bytes "(pattern " ++ (bytes (weighing_word p.weighing) ++ (decimal p.channels ++ (bytes " " ++ (decimal p.clocks ++ (bytes " " ++ (decimal p.low ++ (bytes " " ++ (decimal p.high ++ bytes ")\n"))))))))
unfolding ended render_line header_line mapped ◌▸◌ ◌⨾◌ ◌◂◌ weighing one_of number doc_of
parts p =
    let word = bytes (weighing_word p.weighing) in
    ap (λ b. bytes "(pattern " ++ b) (append_assoc word _ _ ∙ ap (◌++◌ word) (simp append_assoc))

pub returns : goal.returns
returns c =
    let channels = rw c.from.ensures at c.number.ensures in
    let clocks = rw c.from-2.ensures at c.number-2.ensures in
    let low = rw c.from-3.ensures at c.number-3.ensures in
    let high = rw c.from-4.ensures at c.number-4.ensures in
    rw parts
    (puts_then c.word.ensures (puts_then c.put_word.ensures (puts_then channels (puts_then c.byte.ensures
    (puts_then clocks (puts_then c.byte-2.ensures (puts_then low (puts_then c.byte-3.ensures
    (puts_then high c.word-2.ensures)))))))))
