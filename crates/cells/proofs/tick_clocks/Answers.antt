-- `tick_clocks` ticks and holds each of four clocks.
use Rattle.std.proofs.Common.{◌≡◌, ℕ, ◌+◌, ◌-◌, ◌<◌, min, get_or, length, sym, ◌∙◌, arith, rules}
use Rattle.pattern.proofs.ListLaws.{made-at}
use Rattle.cells.proofs.Digits.{four_is, ticked-four}
use Rattle.cells.proofs.tick_clocks.Goals as goal

pub returns : goal.returns
returns c =
    let rs = c.l.inside.radices in
    let cs = c.args.clocks in
    let made = c.from_fn.result in
    let next : ℕ → ℕ = λ k. min (get_or cs k 0 + 1) (get_or rs k 0 - 1) in
    let long : length made ≡ 4 = c.from_fn.ensures.items.long in
    let at : (k : ℕ) → k < 4 → get_or made k 0 ≡ next k =
    λ k low. made-at _ next _ (λ j b q k. search rules) made 4 0 k 0 c.from_fn.ensures.items.each (omega arith) (omega arith) in
    rw (← c.l.view_is)
    (four_is made long
    ∙ rw (at 0 (omega arith), at 1 (omega arith), at 2 (omega arith), at 3 (omega arith))
    (sym (ticked-four rs cs c.l.invariant.four (omega arith))))
