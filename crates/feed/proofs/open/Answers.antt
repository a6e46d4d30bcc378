-- `open`: an opening that is not refused goes by the pattern's plan, and its tables are long.
use mathlib.Core.Path.{◌≡◌, ap, ◌∙◌}
use mathlib.Core.Option.{none}
use lib.ListN.{length}
use Rattle.std.proofs.lemmas.Result.{err_from_is_err_and}
use Rattle.pattern.specs.declared.Pattern.{Pattern}
use Rattle.monitor.specs.Open.{answer_number, open_refusal}
use Rattle.monitor.proofs.Answers.{opened_numbers}
use Rattle.monitor.proofs.Accepted.{done, handed, opened}
use Rattle.feed.proofs.open.Goals as goal

pub returns-in_err-plan-clause-answer_value : goal.returns-in_err-plan-clause-answer_value
returns-in_err-plan-clause-answer_value c =
    let a = c.args in
    let p = err_from_is_err_and c.from_residual.result c.from_residual.ensures.1 in
    rw (p.1, p.2) (ap (answer_number {A = Pattern}) c.in_err-plan.ensures ∙ opened_numbers a.p a.p a.first.now a.second.now)

pub open_both-requires : goal.open_both-requires
open_both-requires c =
    let a = c.args in
    let o = opened a.p (length a.first.now) (length a.second.now) (done a.p _ c.in_ok-plan.ensures) in
    rw (handed a.p _ c.in_ok-plan.ensures) (record { p_in_bounds = o.tables.first; p_in_bounds_2 = o.tables.second })

pub returns : goal.returns
returns c =
    let a = c.args in
    let e : open_refusal a.p (length a.first.now) (length a.second.now) ≡ none = done a.p _ c.in_ok-plan.ensures in
    let h = handed a.p _ c.in_ok-plan.ensures in
    record {
      value = rw (e, c.no_ticks.ensures);
      answer_value = ap (answer_number {A = Pattern}) c.in_ok-plan.ensures ∙ opened_numbers a.p a.p a.first.now a.second.now;
      first_after = rw (e, c.open_both.ensures.first_after, h);
      second_after = rw (e, c.open_both.ensures.second_after, h);
    }
