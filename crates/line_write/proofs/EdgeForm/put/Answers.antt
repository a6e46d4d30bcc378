-- An edge's line, part by part.
use Rattle.std.proofs.Common.{append_assoc}
use Rattle.pattern_text.specs.Form.{◌▸◌, ◌⨾◌, ◌◂◌, mapped, many, number}
use Rattle.pattern_text.specs.Line.{resets, edge_line, render_line}
use Rattle.pattern_text.specs.Text.{edge_line_of, ended}
use Rattle.text_put.proofs.PutLaws.{puts_then}
use Rattle.line_write.proofs.EdgeForm.put.Goals as goal

pub returns : goal.returns
unfolding ended render_line edge_line mapped ◌▸◌ ◌⨾◌ ◌◂◌ many resets number edge_line_of
returns c =
    let from = rw c.from.ensures at c.number.ensures in
    let to = rw c.from-2.ensures at c.number-2.ensures in
    let guards = rw c.in_use.ensures at c.put_all.ensures in
    simp append_assoc
    (puts_then c.word.ensures (puts_then from (puts_then c.byte.ensures (puts_then to
    (puts_then guards (puts_then c.put_resets.ensures c.word-2.ensures))))))
