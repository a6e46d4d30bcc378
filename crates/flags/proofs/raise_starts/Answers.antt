-- `raise_starts` goes place by place.
use Prim.Native.Nat.{ℕ, ◌<◌}
use native.Mathlib.Omega.{arith}
use native.Mathlib.Numerals.{add-one}
use mathlib.Core.Path.{◌≡◌, refl, sym, ap, ◌∙◌}
use mathlib.Core.Bool.{false}
use lib.ListN.{get_or, take}
use Rattle.std.proofs.lemmas.List.{length-take, get_or-take}
use Rattle.flags.specs.Flags.{start_flags}
use Rattle.flags.proofs.raise_starts.Goals as goal
use Rattle.flags.proofs.raise_starts.Goals.{then-on, else-on}

pub loop-p-init : goal.loop-p-init
unfolding start_flags
loop-p-init c = (refl, refl)

pub loop-p-preserved : goal.loop-p-preserved
unfolding start_flags
loop-p-preserved c =
    let l = c.loop-p in
    let a = c.args in
    let low : l.p < a.count = omega (arith, length-take a.count a.starts) in
    let on : get_or (take a.count a.starts) l.p false ≡ get_or a.starts l.p false = get_or-take a.count a.starts l.p false low in
    elim c.if-on.branch [
      | then-on w ↦ (rw w.flags-is (w.raise.auto.flags ∙ l.invariant.0), w.flags-is ∙ w.raise.ensures ∙ rw (add-one, sym on ∙ w.if-on.true, l.invariant.1))
      | else-on w ↦ (rw w.flags-is l.invariant.0, w.flags-is ∙ rw (add-one, sym on ∙ w.if-on.false, l.invariant.1))
    ]

pub returns : goal.returns
returns c =
    let l = c.loop-p in
    let a = c.args in
    let few = c.requires.1 in
    let e : l.p ≡ a.count = omega (arith, length-take a.count a.starts) in
    l.invariant.1 ∙ ap (λ (n : ℕ). start_flags a.starts n a.flags.now) e
