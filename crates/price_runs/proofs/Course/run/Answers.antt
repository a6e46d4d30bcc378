-- A step takes the first edge and the first stay of those left.
use Rattle.std.proofs.Common.{◌≡◌, ◌∙◌, ℕ, ℤ, List, ◌∷◌, ◌++◌, sym, ap, Option, Some}
use Rattle.std.proofs.lemmas.Slice.Zip.{Zip-more, either_empty_from_Zip}
use Rattle.pattern.specs.declared.Pattern.{Pattern}
use Rattle.record.specs.Run.{Step, steps_of}
use Rattle.price_runs.specs.declared.Stand.{Stand}
use Rattle.price_runs.specs.Stand.{outcome, Stepped}
use Rattle.price_runs.proofs.RunLaws.{steps-first, steps-none, no_outcome}
use Rattle.price_runs.proofs.Course.run.Goals as goal

-- Once the first of the steps left is tried, what comes of the others is what came of all.
goes-on : (p : Pattern) (ds : List ℕ) (vs : List ℤ) (s : Stand) (r : Option Stand) (e n : ℕ) → Stepped p ds vs s (record { edge = e; stay = n }) r
    → (es ss es' ss' : List ℕ) → (es ≡ e ∷ es') × (ss ≡ n ∷ ss')
    → (ys : List Step) → outcome p ds vs r (steps_of es' ss' ++ ys) ≡ outcome p ds vs (Some s) (steps_of es ss ++ ys)
goes-on p ds vs s r e n tried es ss es' ss' more ys =
    tried.same (steps_of es' ss' ++ ys) ∙ ap (λ (xs : List Step). outcome p ds vs (Some s) (xs ++ ys)) (sym (steps-first es ss es' ss' e n more.0 more.1))

pub returns-in_err-at : goal.returns-in_err-at
returns-in_err-at c =
    let a = c.args in
    let tried = rw c.in_err-at.was at c.step.ensures in
    let more = Zip-more c.loop-edge.edge-iterator c.next.new.self c.next.result (c.in-Some.edge, c.in-Some.stay) c.in-Some.is c.next.ensures.steps in
    rw c.from_residual.ensures
    (record {
      held = tt;
      same = λ ys.
          no_outcome a.self.now.pattern _ _ ys _
          ∙ goes-on _ _ _ _ _ _ _ tried _ _ _ _ more ys
          ∙ c.loop-edge.invariant.same ys;
    })

pub loop-edge-preserved : goal.loop-edge-preserved
loop-edge-preserved c =
    let tried = rw c.in_ok-at.was at c.step.ensures in
    let more = Zip-more c.loop-edge.edge-iterator c.next.new.self c.next.result (c.in-Some.edge, c.in-Some.stay) c.in-Some.is c.next.ensures.steps in
    record { held = tried.held; same = λ ys. goes-on _ _ _ _ _ _ _ tried _ _ _ _ more ys ∙ c.loop-edge.invariant.same ys }

pub returns : goal.returns
returns c =
    let a = c.args in
    let it = c.loop-edge.edge-iterator in
    let none = either_empty_from_Zip it c.next.new.self c.next.result c.in-None.is c.next.ensures.steps in
    record {
      held = c.loop-edge.invariant.held;
      same = λ ys.
          ap (λ (xs : List Step). outcome a.self.now.pattern a.self.now.lent.durations.now a.self.now.lent.values.now (Some c.loop-edge.at) (xs ++ ys)) (sym (steps-none _ _ none))
          ∙ c.loop-edge.invariant.same ys;
    }
