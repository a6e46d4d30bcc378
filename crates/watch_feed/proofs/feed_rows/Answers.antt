-- One feed, its reports looked at and put.
use mathlib.Core.Path.{◌≡◌, refl, ◌∙◌}
use mathlib.Core.List.{List}
use mathlib.Core.Option.{Option, none, some}
use lib.IntN.{ℤ}
use borrow.Author.Rules.{rules}
use Rattle.std.specs.Result.{result_unwrap_or}
use Rattle.pattern.specs.declared.Pattern.{Pattern}
use Rattle.pattern.specs.declared.Refusal.{Refusal}
use Rattle.monitor.specs.declared.State.{State}
use Rattle.monitor.specs.State.{piece_later}
use Rattle.monitor.specs.Open.{answer_of, unless_refused}
use Rattle.monitor.specs.Feed.{Call, feed_refusal, feed_state}
use Rattle.feed.specs.After.{fed_of}
use Rattle.best.specs.Search.{chunk_of}
use Rattle.watch_feed.proofs.feed_rows.Goals as goal

-- a feed that is refused leaves the state
left : (p : Pattern) (s : State) (t u : List ℤ) (c : Call) → result_unwrap_or (fed_of p s t u c) s ≡ feed_state p s t u c
left p s t u c = by (feed_refusal p s t u c) (piece_later p s c.duration c.values)
  where
    by : (o : Option Refusal) (later : State) → result_unwrap_or (answer_of (unless_refused o later s) o) s ≡ unless_refused o later s
    by none later = refl
    by (some r) later = refl

pub put_reports-requires : goal.put_reports-requires
put_reports-requires c =
    let o = c.feed-fed.ensures in
    (search rules, search rules, search rules, λ i l. rw o.lengths_after (c.requires.2 i l))

pub returns : goal.returns
returns c =
    let a = c.args in
    let o = c.feed-fed.ensures in
    let r = rw (o.scores_after, o.lengths_after) at c.put_reports.ensures in
    record {
      state_value = c.unwrap_or-state.ensures ∙ rw o.value (left a.p a.s.state a.first.now a.second.now (chunk_of a.ticks a.values.now));
      choice_value = c.choose_all-choice.ensures ∙ rw (o.scores_after, o.lengths_after);
      first_after = o.first_after;
      second_after = o.second_after;
      put = r.put;
      ticks_len_bound = r.count_bound;
    }
