-- One feed, and its reports.
use mathlib.Core.Path.{◌∙◌}
use Rattle.best.proofs.feed_some.Goals as goal

pub returns : goal.returns
returns c =
    let none_given = c.requires.2 in
    let o = c.feed_piece-state.ensures in
    record {
      state_value = rw none_given o.value;
      choice_value = c.choose_all-choice.ensures ∙ rw (o.scores_after, o.lengths_after, none_given, c.p.view_is);
      first_after = rw none_given o.first_after;
      flagged = o.flagged;
    }
