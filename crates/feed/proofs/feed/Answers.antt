-- `feed` lends flags enough for the rows of a sound pattern.
use native.Mathlib.Omega.{arith}
use mathlib.Core.Path.{ap, ◌∙◌}
use Rattle.pattern.proofs.SoundLaws.{parts}
use Rattle.monitor.specs.declared.State.{State}
use Rattle.monitor.specs.Open.{answer_number}
use Rattle.monitor.specs.Feed.{feed_state}
use Rattle.monitor.proofs.Answers.{fed_numbers}
use Rattle.feed.specs.After.{call_of}
use Rattle.feed.proofs.feed.Goals as goal

pub feed_with-requires-else-p-lt128 : goal.feed_with-requires-else-p-lt128
feed_with-requires-else-p-lt128 c = λ sound. let h = (parts c.args.p sound).short_high in omega arith

pub returns-then-p-lt128-clause-answer_value : goal.returns-then-p-lt128-clause-answer_value
returns-then-p-lt128-clause-answer_value c =
    let a = c.args in
    let call = call_of a.duration a.values.now a.scores.now a.lengths.now in
    ap (answer_number {A = State}) c.feed_with.ensures.value ∙ fed_numbers (feed_state a.p a.s a.first.now a.second.now call) a.p a.s a.first.now a.second.now call

pub returns-else-p-lt128-clause-answer_value : goal.returns-else-p-lt128-clause-answer_value
returns-else-p-lt128-clause-answer_value c =
    let a = c.args in
    let call = call_of a.duration a.values.now a.scores.now a.lengths.now in
    ap (answer_number {A = State}) c.feed_with-else-p-lt128.ensures.value ∙ fed_numbers (feed_state a.p a.s a.first.now a.second.now call) a.p a.s a.first.now a.second.now call
