-- `feed_pattern`: at a refusal the state that the slice held is what it holds.
use mathlib.Core.Path.{◌≡◌, sym, subst, ◌∙◌}
use mathlib.Core.Option.{some}
use mathlib.Core.Bool.{false}
use Rattle.monitor.specs.declared.State.{State}
use Rattle.monitor.specs.Feed.{feed_refusal}
use Rattle.monitor.proofs.Accepted.{refused_for_lem}
use Rattle.feed.specs.After.{call_of}
use Rattle.pattern.specs.declared.Refusal.TheVariants.{BrokenState}
use Rattle.std.proofs.lemmas.Result.{err_from_is_err_and}
use Rattle.state_slice.specs.Slice.{holds_state, state_in}
use Rattle.state_slice.proofs.Slices.{held-is, none-held, read-is-written}
use Rattle.host_monitor.proofs.feed_pattern.Goals as goal

pub returns-in_err-held-clause-value : goal.returns-in_err-held-clause-value
returns-in_err-held-clause-value c =
    let l = c.args.state.now in
    let k = c.in_err-held.ensures in
    let h : holds_state l ≡ false = none-held l (sym k.ok_part ∙ c.held_state.ensures) in
    let e = rw k.ok_part at k.value in
    let cause : c.in_err-held.field-0.0 ≡ BrokenState = cc in
    let p = err_from_is_err_and c.from_residual.result c.from_residual.ensures.1 in
    rw (p.1, p.2, h, cause)

pub returns-in_err-feed-clause-state_after : goal.returns-in_err-feed-clause-state_after
returns-in_err-feed-clause-state_after c =
    let a = c.args in
    let l = a.state.now in
    let call = call_of a.duration a.values.now a.scores.now a.lengths.now in
    let h = held-is l c.in_ok-held.held (sym c.in_ok-held.ensures.ok_part ∙ c.held_state.ensures) in
    let o : feed_refusal a.p (state_in l) a.first.now a.second.now call ≡ some c.in_err-feed.field-0.0 =
    subst (λ (s : State). feed_refusal a.p s a.first.now a.second.now call ≡ some c.in_err-feed.field-0.0) h.1 (refused_for_lem (tt {0}) _ _ c.in_err-feed.ensures.value) in
    rw (h.0, o) (sym (read-is-written l h.0))
