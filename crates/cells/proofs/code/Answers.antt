-- `code` is the clocks' number; it and each number on the way are below the block.
use native.Mathlib.Omega.{arith}
use mathlib.Core.Path.{refl, sym, subst}
use Rattle.cells.specs.declared.Layout.{Layout}
use Rattle.cells.specs.Index.{code_of, Within}
use Rattle.cells.proofs.Digits.{coded, block-small}
use Rattle.cells.proofs.code.Goals as goal

pub overflow_mul-result-3 : goal.overflow_mul-result-3
unfolding code_of
overflow_mul-result-3 c =
    let within = subst (λ (s : Layout). Within s.radices c.args.clocks) (sym c.l.view_is) c.requires in
    let h = coded _ c.args.clocks c.l.invariant within in
    let small = block-small _ c.l.invariant in
    omega arith

pub overflow_add-result-3 : goal.overflow_add-result-3
unfolding code_of
overflow_add-result-3 c =
    let within = subst (λ (s : Layout). Within s.radices c.args.clocks) (sym c.l.view_is) c.requires in
    let h = coded _ c.args.clocks c.l.invariant within in
    let small = block-small _ c.l.invariant in
    omega arith

pub returns : goal.returns
unfolding code_of
returns c = rw (← c.l.view_is) refl
