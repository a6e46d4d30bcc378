-- Clocks that grow and are reset, and what a step that can be made has.
use Prim.Native.Nat.{ℕ, zero, suc, ◌+◌, ◌≤◌, ◌<◌}
use native.Mathlib.Omega.{arith}
use mathlib.Core.Path.{◌≡◌, refl}
use mathlib.Core.List.{List, [], ◌∷◌, zip_with}
use mathlib.Core.Bool.{Bool, true, false, cond}
use borrow.Author.Tests.{leb-true, ltb-true, eqb-true}
use lib.ListN.{length}
use Rattle.pattern.specs.declared.Pattern.{Pattern}
use Rattle.pattern.specs.InUse.{edge_at}
use Rattle.pattern.specs.Clocks.{Clocks, clock_at, later, guards_hold, after_resets}
use Rattle.pattern.proofs.SoundLaws.{both}
use Rattle.record.specs.Run.{Step, can_step, clocks_after}

-- ---- clocks

pub later-is : (n k : ℕ) (cs : Clocks) → k < length cs → clock_at (later n cs) k ≡ clock_at cs k + n
later-is n k [] h = absurd (omega arith)
later-is n zero (c ∷ cs) h = refl
later-is n (suc k) (c ∷ cs) h = later-is n k cs (omega arith)

pub later-at : (n k : ℕ) (cs : Clocks) → clock_at (later n cs) k ≤ clock_at cs k + n
later-at n k [] = omega arith
later-at n zero (c ∷ cs) = omega arith
later-at n (suc k) (c ∷ cs) = later-at n k cs

resets-at : (fs : List Bool) (cs : Clocks) (k : ℕ) → clock_at (zip_with (λ f c. cond f 0 c) fs cs) k ≤ clock_at cs k
unfolding zip_with
resets-at [] cs k = omega arith
resets-at (f ∷ fs) [] k = omega arith
resets-at (true ∷ fs) (c ∷ cs) zero = omega arith
resets-at (false ∷ fs) (c ∷ cs) zero = omega arith
resets-at (f ∷ fs) (c ∷ cs) (suc k) = resets-at fs cs k

pub clocks-after : (p : Pattern) (cs : Clocks) (x : Step) (k : ℕ) → clock_at (clocks_after p cs x) k ≤ clock_at cs k + x.stay
unfolding after_resets
clocks-after p cs x k =
    omega (arith, resets-at (edge_at p x.edge).resets (later x.stay cs) k, later-at x.stay k cs)

-- ---- a step

-- what a step that can be made has
pub record Can (p : Pattern) (k : ℕ) (cs : Clocks) (x : Step) : Type 0 where
  pub known : x.edge < p.edgecount
  pub leaves : (edge_at p x.edge).from ≡ k
  pub waits : 1 ≤ x.stay
  pub holds : guards_hold (later x.stay cs) (edge_at p x.edge) ≡ true

pub can-parts : (p : Pattern) (k : ℕ) (cs : Clocks) (x : Step) → can_step p k cs x ≡ true → Can p k cs x
unfolding can_step
can-parts p k cs x e =
    let a = both _ _ e in
    let b = both _ _ a.0 in
    let c = both _ _ b.0 in
    record { known = ltb-true _ _ c.0; leaves = eqb-true _ _ c.1; waits = leb-true _ _ b.1; holds = a.1 }
