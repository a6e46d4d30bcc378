-- The cases of one report more.
use mathlib.Core.Path.{◌≡◌, sym, ◌∙◌}
use borrow.Author.Rules.{rules}
use mir.Syntax.{w64}
use mir.Val.{to_z, of_z}
use mir.Facts.{to_z-of_z}
use Rattle.weighting.proofs.Weightings.{weighting_of}
use Rattle.best.proofs.Choices.{no_run, first_run, kept_run, better-run}
use Rattle.best.proofs.choose.Goals as goal

pub returns-then-length-eq0 : goal.returns-then-length-eq0
returns-then-length-eq0 c = let a = c.args in no_run a.p a.end a.score _ a.length c.if-length-eq0.true

pub returns-in-Some : goal.returns-in-Some
returns-in-Some c =
    let a = c.args in
    let f = c.in-Some.best in
    let p = to_z-of_z c.ranges.score in
    let q : to_z w64 (of_z w64 f.score) ≡ f.score = search rules in
    let g : c.at_least.result ≡ (weighting_of a.p.weighing).order.at_least f.score a.score = rw (p, q) at c.at_least.ensures in
    rw c.in-Some.is (kept_run a.p a.end a.score (record { end = f.end; len = f.length; score = f.score }) a.length c.if-length-eq0.false (sym g ∙ c.if-at_least.true))

pub returns-in_default : goal.returns-in_default
returns-in_default c =
    let a = c.args in
    let f = c.in-Some.best in
    let p = to_z-of_z c.ranges.score in
    let q : to_z w64 (of_z w64 f.score) ≡ f.score = search rules in
    let g : c.at_least.result ≡ (weighting_of a.p.weighing).order.at_least f.score a.score = rw (p, q) at c.at_least.ensures in
    rw (c.in-Some.is, p) (better-run a.p a.end a.score (record { end = f.end; len = f.length; score = f.score }) a.length c.if-length-eq0.false (sym g ∙ c.if-at_least.false))

pub returns-in_default-2 : goal.returns-in_default-2
returns-in_default-2 c =
    let a = c.args in
    rw (c.in_default.is, to_z-of_z c.ranges.score) (first_run a.p a.end a.score a.length c.if-length-eq0.false)
