-- The whole text, line by line.
use Rattle.std.proofs.Common.{rules}
use Rattle.text_put.specs.Put.{Puts}
use Rattle.text_put.proofs.PutLaws.{puts_then, put_whole}
use Rattle.line_write.proofs.TextLaws.{lines}
use Rattle.pattern_text.specs.Text.{render_of}
use Rattle.line_write.proofs.put_pattern.Goals as goal

pub returns : goal.returns
returns c =
    let places = rw c.in_use.ensures at c.put_all.ensures in
    let edges = rw c.in_use-2.ensures at c.put_all-2.ensures in
    let whole : Puts c.new-out.result c.put_all-2.new.out (render_of c.args.p.now) = rw (lines c.args.p.now) at (puts_then c.put_header.ensures (puts_then places edges)) in
    put_whole c.new-out.ensures whole (search rules)
