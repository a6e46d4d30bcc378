-- The largest bound on a clock, guard by guard and edge by edge; its range in a sound pattern.
use Prim.Native.Nat.{ℕ, ◌+◌, ◌<◌, max}
use native.Mathlib.Omega.{arith}
use mathlib.Core.Path.{◌≡◌, refl, ap, ◌∙◌}
use mathlib.Core.List.{List, [], ◌∷◌, ◌++◌, flat_map}
use mathlib.Core.Bool.{Bool, true, false, cond}
use borrow.Author.Tests.{eq-eqb, ne_eqb}
use lib.Dec.{eqb}
use lib.ListN.{length, take, get_or}
use Rattle.pattern.specs.declared.Guard.{Guard}
use Rattle.pattern.specs.declared.Edge.{Edge}
use Rattle.pattern.specs.InUse.{guards_of}
use Rattle.pattern.specs.Cells.{bounds_on, largest}
use Rattle.pattern.proofs.ListLaws.{take_more, flat_map_snoc}

pub largest-append : (ms ns : List ℕ) → largest (ms ++ ns) ≡ max (largest ms) (largest ns)
unfolding largest
largest-append [] ns = omega arith
largest-append (m ∷ ms) ns = let e = largest-append ms ns in omega arith

bounds_append : (k : ℕ) (gs hs : List Guard) → bounds_on k (gs ++ hs) ≡ bounds_on k gs ++ bounds_on k hs
unfolding bounds_on
bounds_append k [] hs = refl
bounds_append k (g ∷ gs) hs = by (eqb g.clock k) (bounds_append k gs hs)
  where
    by : (t : Bool) → bounds_on k (gs ++ hs) ≡ bounds_on k gs ++ bounds_on k hs → cond t (g.bound ∷ bounds_on k (gs ++ hs)) (bounds_on k (gs ++ hs)) ≡ cond t (g.bound ∷ bounds_on k gs) (bounds_on k gs) ++ bounds_on k hs
    by true e = ap (◌∷◌ g.bound) e
    by false e = e

-- the largest bound of some guards and then of some more
pub largest-on : (k : ℕ) (gs hs : List Guard) → largest (bounds_on k (gs ++ hs)) ≡ max (largest (bounds_on k gs)) (largest (bounds_on k hs))
largest-on k gs hs = ap largest (bounds_append k gs hs) ∙ largest-append (bounds_on k gs) (bounds_on k hs)

-- a turn of the loop over the guards, starting from `most`
pub guard-more : (k most i : ℕ) (gs : List Guard) (d : Guard) → i < length gs
    → max (max most (largest (bounds_on k (take i gs)))) (largest (bounds_on k (get_or gs i d ∷ []))) ≡ max most (largest (bounds_on k (take (i + 1) gs)))
guard-more k most i gs d h =
    let e = ap (λ (l : List Guard). largest (bounds_on k l)) (take_more i gs d h) ∙ largest-on k (take i gs) (get_or gs i d ∷ []) in
    omega arith

-- a turn of the loop over the edges
pub edge_more : (k i : ℕ) (es : List Edge) (d : Edge) → i < length es
    → max (largest (bounds_on k (flat_map guards_of (take i es)))) (largest (bounds_on k (guards_of (get_or es i d)))) ≡ largest (bounds_on k (flat_map guards_of (take (i + 1) es)))
edge_more k i es d h =
    let e = ap (λ (l : List Edge). largest (bounds_on k (flat_map guards_of l))) (take_more i es d h)
    ∙ ap (λ (l : List Guard). largest (bounds_on k l)) (flat_map_snoc guards_of (take i es) (get_or es i d))
    ∙ largest-on k (flat_map guards_of (take i es)) (guards_of (get_or es i d)) in
    omega arith

-- one guard: on the clock, or on another
pub on_clock : (k : ℕ) (g : Guard) → g.clock ≡ k → largest (bounds_on k (g ∷ [])) ≡ g.bound
unfolding bounds_on largest
on_clock k g e = rw (eq-eqb g.clock k e) (omega arith)

pub on-other : (k : ℕ) (g : Guard) → (g.clock ≡ k → ⊥) → largest (bounds_on k (g ∷ [])) ≡ 0
unfolding bounds_on largest
on-other k g n = rw (ne_eqb g.clock k n)
