-- `read_first` meets its contract: none of the words so far stands there.
use Rattle.std.proofs.Common.{sym, ◌∙◌, arith}
use Rattle.line_parts.proofs.FirstOf.{first_none, first_here, first_next}
use Rattle.line_parts.proofs.read_first.Goals as goal

pub returns-in-Some : goal.returns-in-Some
returns-in-Some g c =
    let l = c.loop-value in
    first_here g.T.Word.spelled c.args.values.now l.value-index c.args.text.now _ c.value-item.is (omega arith) _ c.word.ensures c.in-Some.ensures ∙ sym l.invariant

pub loop-value-preserved : goal.loop-value-preserved
loop-value-preserved g c =
    let l = c.loop-value in
    l.invariant ∙ first_next g.T.Word.spelled c.args.values.now l.value-index c.args.text.now _ c.value-item.is (omega arith) _ c.word.ensures c.in_default.ensures

pub returns : goal.returns
returns g c =
    let l = c.loop-value in
    first_none g.T.Word.spelled c.args.values.now l.value-index c.args.text.now (omega arith) ∙ sym l.invariant
