-- `read_further` meets its contract: the clocks that are left, added to those so far, give the same.
use Rattle.std.proofs.Common.{sym, ap, ◌∙◌}
use Rattle.pattern_text.specs.Form.{giving, many, ◌▸◌, number}
use Rattle.text_scan.proofs.Answered.{met}
use Rattle.line_lists.specs.ResetList.{added}
use Rattle.text_scan.proofs.Shorter.{spaced_shorter}
use Rattle.line_lists.proofs.ResetsLaws.{further_more, further_end, spaced_small}
use Rattle.line_lists.proofs.read_further.Goals as goal

pub loop-clock-smaller : goal.loop-clock-smaller
loop-clock-smaller c = spaced_shorter c.loop-clock.rest.now _ _ (met _ _ c.in-Some.ensures).is

pub with-all-requires : goal.with-all-requires
with-all-requires c = spaced_small c.loop-clock.rest.now _ _ c.in-Some.ensures

pub loop-clock-preserved : goal.loop-clock-preserved
loop-clock-preserved c =
    let l = c.loop-clock in
    l.invariant ∙ further_more c.args.clocks l.all l.rest.now _ _ c.in-Some.ensures
    ∙ ap (λ s. giving (added c.args.clocks s) ((many (" " ▸ number)).read c.in-Some.next.now)) (sym c.with-all.ensures)

pub returns : goal.returns
returns c = let l = c.loop-clock in further_end c.args.clocks l.all l.rest.now c.in_default.ensures ∙ sym l.invariant
