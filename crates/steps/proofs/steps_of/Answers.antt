-- `steps_of` makes a step of each edge, one after the other.
use Prim.Native.Nat.{◌<◌}
use native.Mathlib.Omega.{arith}
use mathlib.Core.Path.{◌≡◌, ◌∙◌}
use lib.ListN.{take, length-set}
use Rattle.std.proofs.lemmas.List.{length-take, get_or-take}
use Rattle.steps.specs.Steps.{edge_in}
use Rattle.steps.proofs.Spans.{written-more, steps-made}
use Rattle.steps.proofs.steps_of.Goals as goal

pub loop-i-preserved : goal.loop-i-preserved
loop-i-preserved c =
    let l = c.loop-i in
    let a = c.args in
    let low : l.i < a.count = omega (arith, length-take a.count a.edges) in
    let e : edge_in (take a.count a.edges) l.i ≡ edge_in a.edges l.i = get_or-take a.count a.edges l.i _ low in
    let few = c.requires.0 in
    let long = l.invariant.0 in
    (length-set l.steps l.i _ ∙ long, written-more l.steps a.edges l.i _ (omega arith) (rw e at c.step_of.ensures) l.invariant.1)

pub returns : goal.returns
returns c =
    let st = c in
    let l = c.loop-i in
    let few = st.requires.0 in
    steps-made st.args.edges st.args.count l.steps st.requires.1 (λ j h. l.invariant.1 j (omega (arith, length-take st.args.count st.args.edges)))
