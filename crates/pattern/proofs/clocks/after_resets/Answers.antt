use Rattle.std.proofs.Common.{rules, ◌≡◌, ℕ, Bool, cond, get_or, length, arith, false, ◌∙◌, sym}
use Rattle.std.proofs.lemmas.List.{ext_get_or}
use Rattle.pattern.specs.Clocks.{after_resets}
use Rattle.pattern.proofs.ListLaws.{made-at, zip-at, length-zip}
use Rattle.pattern.proofs.clocks.after_resets.Goals.{Start}
use Rattle.pattern.proofs.clocks.after_resets.Goals as goal

-- an array has as many elements as its type says
four : (c : Start) → (length c.args.e.resets ≡ 4) × (length c.args.clocks ≡ 4)
four c = (omega arith, omega arith)

pub returns : goal.returns
unfolding after_resets
returns c =
    let e = c.args.e in
    let keep : Bool → ℕ → ℕ = λ reset clock. cond reset 0 clock in
    let long : length c.from_fn.result ≡ 4 = c.from_fn.ensures.items.long in
    let n = four c.before.before.before in
    let zipped = length-zip keep e.resets c.args.clocks (n.0 ∙ sym n.1) in
    ext_get_or 0 _ _ (omega arith) (λ i l.
    made-at _ (λ k. keep (get_or e.resets k false) (get_or c.args.clocks k 0)) _ (λ j b q k. search rules) c.from_fn.result 4 0 i 0 c.from_fn.ensures.items.each (omega arith) (omega arith)
    ∙ sym (zip-at keep e.resets c.args.clocks i false 0 0 (omega arith) (omega arith)))
