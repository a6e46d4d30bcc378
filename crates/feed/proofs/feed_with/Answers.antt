-- `feed_with`: what was found while looking for a refusal is what an accepted piece may go by, its plan and its flags.
use mathlib.Core.Path.{◌≡◌}
use mathlib.Core.Option.{none}
use lib.ListN.{length}
use Rattle.monitor.specs.Feed.{feed_cause}
use Rattle.monitor.proofs.Accepted.{done, handed, fed, any_second}
use Rattle.feed.proofs.feed_with.Goals as goal

pub feed_piece-later-requires : goal.feed_piece-later-requires
feed_piece-later-requires c =
    let a = c.args in
    let e : feed_cause a.p a.s a.first.now (length a.second.now) a.duration a.values.now (length a.scores.now) (length a.lengths.now) ≡ none = done a.p _ c.in_ok-plan.ensures.value in
    let k = fed a.p a.s a.first.now (length a.second.now) a.duration a.values.now (length a.scores.now) (length a.lengths.now) e in
    rw (handed a.p _ c.in_ok-plan.ensures.value)
    (any_second a.p a.s a.first.now (length a.second.now) (length a.first.now) a.duration a.values.now (length a.scores.now) (length a.lengths.now) e k.tables.first, c.in_ok-plan.ensures.flagged e)

pub mark_all-requires : goal.mark_all-requires
mark_all-requires c =
    let a = c.args in
    let k = fed a.p a.s a.first.now (length a.second.now) a.duration a.values.now (length a.scores.now) (length a.lengths.now) (done a.p _ c.in_ok-plan.ensures.value) in
    rw (handed a.p _ c.in_ok-plan.ensures.value) k.tables.second
