-- `span_of` narrows the span guard by guard.
use Prim.Native.Nat.{◌<◌, min}
use native.Mathlib.Omega.{arith}
use mathlib.Core.Path.{◌≡◌, refl, ◌∙◌, ap}
use lib.ListN.{length}
use Rattle.std.proofs.lemmas.List.{length-take, get_or-take}
use Rattle.pattern.specs.Sound.{no_guard}
use Rattle.steps.specs.Made.{span_of}
use Rattle.steps.proofs.Spans.{span_more}
use Rattle.steps.proofs.span_of.Goals as goal

pub loop-g-init : goal.loop-g-init
unfolding span_of
loop-g-init c = refl

pub loop-g-preserved : goal.loop-g-preserved
loop-g-preserved c =
    let l = c.loop-g in
    let a = c.args in
    let are = c.in_use-g-items.ensures in
    let low : l.g-index < a.e.count = omega (arith, rw are at c.loop-g-test.true, length-take a.e.count a.e.guards) in
    let g = get_or-take a.e.count a.e.guards l.g-index no_guard low in
    (rw are at c.narrow_on-s.ensures) ∙ rw (g, l.invariant) (span_more a.e a.clock l.g-index)

pub returns : goal.returns
returns c =
    let l = c.loop-g in
    let a = c.args in
    let are : length c.in_use-g-items.result.now ≡ min a.e.count (length a.e.guards) = ap length c.in_use-g-items.ensures ∙ length-take a.e.count a.e.guards in
    let e : l.g-index ≡ min a.e.count 4 = omega arith in
    l.invariant ∙ ap (span_of a.e a.clock) e
