-- A place's line, part by part.
use Rattle.std.proofs.Common.{append_assoc}
use Rattle.pattern.specs.InUse.{tests_of}
use Rattle.pattern_text.specs.Form.{◌▸◌, ◌⨾◌, ◌◂◌, mapped, one_of, many}
use Rattle.pattern_text.specs.Line.{raw_test_of, test, kind, place_line, render_line}
use Rattle.pattern_text.specs.Text.{place_line_of, ended}
use Rattle.text_put.proofs.PutLaws.{puts_then}
use Rattle.line_write.proofs.TextLaws.{many-map}
use Rattle.line_write.proofs.PlaceForm.put.Goals as goal

pub returns : goal.returns
unfolding ended render_line place_line mapped ◌▸◌ ◌⨾◌ ◌◂◌ kind one_of many place_line_of
returns c =
    let tests = rw (c.in_use.ensures, ← many-map test.write raw_test_of (tests_of c.args.self.now)) at c.put_all.ensures in
    simp append_assoc (puts_then c.word.ensures (puts_then c.put_word.ensures (puts_then tests c.word-2.ensures)))
