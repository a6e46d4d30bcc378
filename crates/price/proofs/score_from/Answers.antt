-- `score_from` makes the steps, and looks at the place that the last edge enters.
use Rattle.std.proofs.Common.{◌≡◌, ◌∙◌, ap, [], arith, ◌^◌, ℕ, ℤ, List, Option, Some, Result, Ok}
use Rattle.std.specs.Int.{w64}
use mathlib.Core.List.{append-nil}
use Rattle.std.proofs.lemmas.Result.{err_from_is_err_and}
use Rattle.pattern.specs.declared.Refusal.TheVariants.{NotARun}
use Rattle.integers.proofs.Casts.{read_back}
use Rattle.integers.proofs.Ranges.{abs_fits_64}
use Rattle.pattern.specs.declared.Pattern.{Pattern}
use Rattle.price_runs.specs.declared.Stand.{Stand}
use Rattle.record.specs.Run.{Step, steps_of}
use Rattle.price.specs.Price.{scored}
use Rattle.pattern.specs.declared.Refusal.{Refusal}
use Rattle.price_runs.specs.Stand.{outcome, score_from, Ran}
use Rattle.price.proofs.score_from.Goals as goal

-- what the steps come to is what is left once all are made
all_made : {p : Pattern} {ds : List ℕ} {vs : List ℤ} {s : Stand} {xs : List Step} {r : Option Stand} → Ran p ds vs s xs r
    → outcome p ds vs r [] ≡ outcome p ds vs (Some s) xs
all_made {p} {ds} {vs} {s} {xs} ran = ran.same [] ∙ ap (outcome p ds vs (Some s)) (append-nil xs)

pub returns-in_err-end : goal.returns-in_err-end
unfolding outcome
returns-in_err-end c =
    let p = err_from_is_err_and c.from_residual.result c.from_residual.ensures.1 in
    let none = c.in_err-end.ensures.ok_part in
    let cause : c.in_err-end.field-0.0 ≡ NotARun = cc (rw none at c.in_err-end.ensures.value) in
    rw (p.1, p.2, cause, ← all_made c.run.ensures, none)

pub returns-then-not-is_end : goal.returns-then-not-is_end
unfolding outcome score_from
returns-then-not-is_end c =
    rw (← all_made c.run.ensures, c.in_ok-end.ensures.ok_part, ← c.kind_at.ensures, ← c.is_end.ensures, c.if-not-is_end.true)

pub returns : goal.returns
unfolding outcome score_from
returns c =
    let held = rw c.in_ok-end.ensures.ok_part at c.run.ensures.held in
    let size = held.size in
    let end = c.in_ok-end.end in
    let worth = read_back w64 end.worth (abs_fits_64 end.worth (2 ^ 60) (omega arith) (omega arith)) in
    let a = c.args in
    let due : ◌≡◌ {A = Result ℤ Refusal} (Ok end.worth) (scored (outcome a.course.now.pattern a.course.now.lent.durations.now a.course.now.lent.values.now (Some a.s) (steps_of a.edges.now a.stays.now))) =
    rw (← all_made c.run.ensures, c.in_ok-end.ensures.ok_part, ← c.kind_at.ensures, ← c.is_end.ensures, c.if-not-is_end.false) in
    ap (λ (z : ℤ). Ok z) worth ∙ due
