use native.Mathlib.Omega.{arith}
use mathlib.Core.Path.{◌≡◌, refl, ap, ◌∙◌}
use lib.ListN.{length}
use Rattle.pattern.proofs.SoundLaws.{parts}
use Rattle.pattern.specs.Distance.{Sample}
use Rattle.monitor.specs.State.{last_sample}
use Rattle.feed_moves.specs.Piece.{scores_in, lengths_in}
use Rattle.monitor.proofs.Accepted.{fed}
use Rattle.feed_moves.proofs.feed_piece.Goals as goal

pub tell_piece-requires : goal.tell_piece-requires
tell_piece-requires c =
    let a = c.args in
    let f = fed a.p.now a.s a.first.now (length a.first.now) a.duration a.values.now (length a.scores.now) (length a.lengths.now) c.requires.0 in
    (f.piece.values, f.tables.first, f.cells, f.scores, f.lengths, c.requires.1)

pub last_after-after-requires : goal.last_after-after-requires
last_after-after-requires c =
    let a = c.args in
    let f = fed a.p.now a.s a.first.now (length a.first.now) a.duration a.values.now (length a.scores.now) (length a.lengths.now) c.requires.0 in
    let e = f.piece.count in
    let few = (parts a.p.now f.sound).few_channels in
    omega arith

pub overflow_add-result : goal.overflow_add-result
overflow_add-result c =
    let a = c.args in
    let r = (fed a.p.now a.s a.first.now (length a.first.now) a.duration a.values.now (length a.scores.now) (length a.lengths.now) c.requires.0).room in
    omega arith

pub returns : goal.returns
returns c =
    let a = c.args in
    let f = fed a.p.now a.s a.first.now (length a.first.now) a.duration a.values.now (length a.scores.now) (length a.lengths.now) c.requires.0 in
    let o = c.tell_piece.ensures in
    let e : c.in_use-used.result.now ≡ last_sample a.p.now a.s = rw (c.in_use-used.ensures, c.p.view_is) refl in
    record {
      value = rw (c.last_after-after.ensures, f.piece.count);
      first_after = rw e at o.first_after;
      scores_after = o.scores_after ∙ ap (λ (u : Sample). scores_in a.p.now u a.values.now a.first.now a.duration a.scores.now) e;
      lengths_after = o.lengths_after ∙ ap (λ (u : Sample). lengths_in a.p.now u a.values.now a.first.now a.duration a.lengths.now) e;
      flagged = o.flagged;
    }
