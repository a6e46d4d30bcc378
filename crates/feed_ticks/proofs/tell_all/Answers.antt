-- The loop has told the first i ticks.
use native.Mathlib.Omega.{arith}
use mathlib.Core.Path.{◌≡◌, refl, sym, ap, subst, ◌∙◌}
use Rattle.table.specs.declared.View.{View}
use Rattle.table.specs.Asks.{Gains}
use Rattle.feed_ticks.specs.Ticks.{common, table_to, scores_to, lengths_to}
use Rattle.feed_ticks.proofs.Told.{told_none, gains_at, told_more}
use Rattle.feed_ticks.proofs.tell_all.Goals as goal

pub loop-i-init : goal.loop-i-init
loop-i-init c =
    let a = c.args in
    record {
      told = told_none a.g.now a.v.now a.u.now a.first.now a.scores.now a.lengths.now a.duration c.requires.0;
      flags_long = refl;
      flagged = c.requires.1;
    }

pub tell-requires : goal.tell-requires
tell-requires c =
    let a = c.args in
    let l = c.loop-i in
    let k = l.invariant.told in
    let sl = k.scores_are_long in
    let nl = k.lengths_are_long in
    let sr = c.requires.0.scores_long in
    let nr = c.requires.0.lengths_long in (
      subst (λ (x : View). Gains a.g.now.layout x) (sym c.view_at.ensures) (gains_at a.g.now a.v.now a.u.now a.first.now a.scores.now a.lengths.now a.duration c.requires.0 l.i),
      k.whole,
      omega arith,
      omega arith,
      l.invariant.flagged,
    )

pub loop-i-preserved : goal.loop-i-preserved
loop-i-preserved c =
    let a = c.args in
    let l = c.loop-i in
    let e = c.tell.ensures in
    let q = c.view_at.ensures in
    record {
      told = told_more a.g.now a.v.now a.u.now a.first.now a.scores.now a.lengths.now a.duration c.requires.0 l.i l.first l.scores _ _ l.lengths _ l.invariant.told c.loop-i-test.true
          (rw q at e.first_after) (rw q at e.scores_after) (rw q at e.lengths_after);
      flags_long = c.tell.auto.flags ∙ l.invariant.flags_long;
      flagged = e.flagged;
    }

pub returns : goal.returns
returns c =
    let l = c.loop-i in
    let a = c.args in
    let low = l.invariant.told.low in
    let i-is : l.i ≡ a.duration = omega arith in
    let g = common a.g.now in
    record {
      first_after = l.invariant.told.first_is ∙ ap (table_to g a.v.now a.u.now a.first.now) i-is;
      scores_after = l.invariant.told.scores_are ∙ ap (scores_to g a.v.now a.u.now a.first.now a.scores.now) i-is;
      lengths_after = l.invariant.told.lengths_are ∙ ap (lengths_to g a.v.now a.u.now a.first.now a.lengths.now) i-is;
      flagged = l.invariant.flagged;
    }
