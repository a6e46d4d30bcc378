-- `seeds` goes place by place.
use Prim.Native.Nat.{ℕ, ◌<◌}
use native.Mathlib.Omega.{arith}
use mathlib.Core.Path.{◌≡◌, refl, sym, ap, ◌∙◌}
use mathlib.Core.Bool.{false}
use lib.ListN.{get_or, take, length-set}
use mir.Syntax.{w64}
use mir.Val.{to_z, of_z}
use mir.Facts.{to_z-of_z}
use Rattle.std.proofs.lemmas.List.{length-take, get_or-take}
use Rattle.table.specs.Moves.{starts_of}
use Rattle.table.proofs.Steps.{starts-step}
use Rattle.table_tick.proofs.seeds.Goals as goal
use Rattle.table_tick.proofs.seeds.Goals.{then-on, else-on}

pub loop-p-init : goal.loop-p-init
unfolding starts_of
loop-p-init c = (refl, refl)

pub loop-p-preserved : goal.loop-p-preserved
loop-p-preserved c =
    let l = c.loop-p in
    let a = c.args in
    let low : l.p < a.count = omega (arith, length-take a.count a.starts) in
    let on : get_or (take a.count a.starts) l.p false ≡ get_or a.starts l.p false = get_or-take a.count a.starts l.p false low in
    let step = starts-step a.size (to_z w64 (of_z w64 a.worth)) a.starts l.p a.table.now in
    elim c.if-on.branch [
      | then-on w ↦ (rw w.table-is (length-set l.table _ _ ∙ l.invariant.0), w.table-is ∙ rw (l.invariant.1, step, sym on ∙ w.if-on.true))
      | else-on w ↦ (rw w.table-is l.invariant.0, w.table-is ∙ rw (l.invariant.1, step, sym on ∙ w.if-on.false))
    ]

pub returns : goal.returns
returns c =
    let l = c.loop-p in
    let a = c.args in
    let few = c.requires.0 in
    let e : l.p ≡ a.count = omega (arith, length-take a.count a.starts) in
    let q = to_z-of_z c.ranges.worth in
    l.invariant.1 ∙ rw q (ap (λ (m : ℕ). starts_of a.size a.worth a.starts m a.table.now) e)
