-- `layout_of` is the pattern's layout; a sound pattern's products fit.
use native.Mathlib.Omega.{arith}
use mathlib.Core.Path.{sym, subst}
use Rattle.pattern.proofs.SoundLaws.{parts}
use Rattle.cells.specs.Laid.{Laid}
use Rattle.cells.proofs.Layouts.{products, layout_is, layout-laid}
use Rattle.cells.proofs.layout_of.Goals as goal

pub overflow_mul-block : goal.overflow_mul-block
overflow_mul-block c =
    let h = products c.p.inside.pattern _ _ _ _ c.p.invariant c.radix-a.ensures c.radix-b.ensures c.radix-c.ensures c.radix-d.ensures in
    omega arith

pub overflow_mul-block-2 : goal.overflow_mul-block-2
overflow_mul-block-2 c =
    let h = products c.p.inside.pattern _ _ _ _ c.p.invariant c.radix-a.ensures c.radix-b.ensures c.radix-c.ensures c.radix-d.ensures in
    omega arith

pub overflow_mul-block-3 : goal.overflow_mul-block-3
overflow_mul-block-3 c =
    let h = products c.p.inside.pattern _ _ _ _ c.p.invariant c.radix-a.ensures c.radix-b.ensures c.radix-c.ensures c.radix-d.ensures in
    omega arith

pub overflow_mul-result : goal.overflow_mul-result
overflow_mul-result c = rw (c.from-places.ensures) (omega (arith, (parts c.p.inside.pattern c.p.invariant).places.few))

pub overflow_mul-result-2 : goal.overflow_mul-result-2
overflow_mul-result-2 c =
    let h = products c.p.inside.pattern _ _ _ _ c.p.invariant c.radix-a.ensures c.radix-b.ensures c.radix-c.ensures c.radix-d.ensures in
    rw (c.from-places.ensures) (omega arith)

pub returns : goal.returns
returns c =
    rw (c.from.ensures, c.from-places.ensures, ← c.p.view_is)
    (layout_is c.p.inside.pattern c.args.longest _ _ _ _ c.radix-a.ensures c.radix-b.ensures c.radix-c.ensures c.radix-d.ensures)

pub invariant_of-result : goal.invariant_of-result
invariant_of-result c =
    rw (c.from.ensures, c.from-places.ensures)
    (subst Laid (sym (layout_is c.p.inside.pattern c.args.longest _ _ _ _ c.radix-a.ensures c.radix-b.ensures c.radix-c.ensures c.radix-d.ensures))
    (layout-laid c.p.inside.pattern c.args.longest c.p.invariant (omega arith)))
