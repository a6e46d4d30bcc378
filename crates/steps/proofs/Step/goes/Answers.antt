-- `goes` asks each clock of its span, in the order of the definition.
use Rattle.std.proofs.Common.{rules, ◌≡◌, ℕ, Bool, true, ◌∙◌, arith}
use mathlib.Core.Bool.{◌&&◌}
use Rattle.std.specs.List.{fold, zip}
use Rattle.std.proofs.lemmas.Iterator.{YieldsList-from_slice, YieldsList-from_zip}
use Rattle.std.proofs.lemmas.Iterator.Consumers.{fold_from_yields_List}
use Rattle.steps.specs.declared.Span.{Span}
use Rattle.steps.specs.Steps.{in_span}
use Rattle.steps.proofs.Spans.{four_held}
use Rattle.steps.proofs.Step.goes.Goals as goal

pub returns : goal.returns
returns c =
    let s = c.args.self.now in
    let cs = c.args.clocks in
    let made : c.fold.result ≡ fold (λ (b : Bool) (p : Span × ℕ). b && in_span p.0 p.1) true (zip s.spans cs) =
    fold_from_yields_List _ (λ (b : Bool) (p : Span × ℕ). b && in_span p.0 p.1) true c.fold.result c.fold.ensures.ran (YieldsList-from_zip (YieldsList-from_slice s.spans cc) (YieldsList-from_slice cs cc)) (λ a x b q k. search rules) in
    made ∙ four_held s.spans cs _ (omega arith) (omega arith)
