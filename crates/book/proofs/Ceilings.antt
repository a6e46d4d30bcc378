-- Holding the clocks of a sound pattern at their ceilings goes unnoticed.
use Prim.Native.Nat.{ℕ, zero, suc, ◌+◌, ◌-◌, ◌<◌, min}
use native.Mathlib.Omega.{arith}
use mathlib.Core.Path.{◌≡◌, refl, ◌∙◌}
use mathlib.Core.List.{List, [], ◌∷◌, map, zip_with, Memᴰ}
use mathlib.Core.Bool.{Bool, true, false, cond, ◌&&◌}
use borrow.Author.Tests.{lt-ltb, ltb-true}
use lib.Dec.{ltb}
use lib.ListN.{length, get_or, replicate}
use Rattle.pattern.specs.declared.Guard.{Guard}
use Rattle.pattern.specs.declared.Edge.{Edge}
use Rattle.pattern.specs.declared.Pattern.{Pattern}
use Rattle.pattern.specs.InUse.{guards_of, edges_of}
use Rattle.pattern.specs.Sound.{guard_in_range, guard_known, edge_sound, sound_of}
use Rattle.pattern.specs.Clocks.{Clocks, clock_at, guard_holds, guards_hold, after_resets}
use Rattle.pattern.specs.Cells.{ceiling_of, radix_of, held_at}
use Rattle.pattern.proofs.SoundLaws.{both, parts, edge-parts}
use Rattle.pattern.proofs.Claims.{guards_see_held}
use Rattle.book.specs.Automaton.{ceilings, held}
use Rattle.book.specs.Claims.{CeilingsHold}
use Rattle.book.proofs.Members.{all_member, all_same, in-flat_map}

-- ---- lists held below other lists

zero_held : (ts : List ℕ) → zip_with min ts (replicate (length ts) 0) ≡ replicate (length ts) 0
unfolding zip_with
zero_held [] = refl
zero_held (t ∷ ts) = let e : min t 0 ≡ 0 = omega arith in rw (e, zero_held ts)

tick-held : (ts cs : List ℕ) → zip_with min ts (map (λ c. c + 1) (zip_with min ts cs)) ≡ zip_with min ts (map (λ c. c + 1) cs)
unfolding zip_with
tick-held [] cs = refl
tick-held (t ∷ ts) [] = refl
tick-held (t ∷ ts) (c ∷ cs) = let e : min t (min t c + 1) ≡ min t (c + 1) = omega arith in rw (e, tick-held ts cs)

reset-held : (ts : List ℕ) (fs : List Bool) (cs : List ℕ)
    → zip_with min ts (zip_with (λ f c. cond f 0 c) fs cs) ≡ zip_with (λ f c. cond f 0 c) fs (zip_with min ts cs)
unfolding zip_with
reset-held [] [] cs = refl
reset-held [] (f ∷ fs) [] = refl
reset-held [] (f ∷ fs) (c ∷ cs) = refl
reset-held (t ∷ ts) [] [] = refl
reset-held (t ∷ ts) [] (c ∷ cs) = refl
reset-held (t ∷ ts) (f ∷ fs) [] = refl
reset-held (t ∷ ts) (f ∷ fs) (c ∷ cs) = rw (one f t c, reset-held ts fs cs)
  where
    one : (f : Bool) (t c : ℕ) → min t (cond f 0 c) ≡ cond f 0 (min t c)
    one true t c = omega arith
    one false t c = refl

pub held-at : (ts cs : List ℕ) (k : ℕ) → k < length ts → get_or (zip_with min ts cs) k 0 ≡ min (get_or ts k 0) (get_or cs k 0)
unfolding zip_with
held-at [] cs k h = absurd (omega arith)
held-at (t ∷ ts) [] k h = zero_of (get_or (t ∷ ts) k 0)
  where
    zero_of : (n : ℕ) → 0 ≡ min n 0
    zero_of n = omega arith
held-at (t ∷ ts) (c ∷ cs) zero h = refl
held-at (t ∷ ts) (c ∷ cs) (suc k) h = held-at ts cs k (omega arith)

-- ---- a sound pattern's ceilings

number_at : (k : ℕ) → k < 4 → get_or (0 ∷ 1 ∷ 2 ∷ 3 ∷ []) k 0 ≡ k
number_at zero h = refl
number_at (suc zero) h = refl
number_at (suc (suc zero)) h = refl
number_at (suc (suc (suc zero))) h = refl
number_at (suc (suc (suc (suc k)))) h = absurd (omega arith)

map_at : (f : ℕ → ℕ) (l : List ℕ) (k : ℕ) → k < length l → get_or (map f l) k 0 ≡ f (get_or l k 0)
map_at f [] k h = absurd (omega arith)
map_at f (x ∷ l) zero h = refl
map_at f (x ∷ l) (suc k) h = map_at f l k (omega arith)

module _ (p : Pattern) (sound : sound_of p ≡ true) where
  -- the ceiling of a clock that the pattern has
  ceiling_at : (k : ℕ) → k < p.clocks → get_or (ceilings p) k 0 ≡ ceiling_of p k
  ceiling_at k h =
      let few = (parts p sound).few_clocks in
      map_at (λ n. cond (ltb n p.clocks) (ceiling_of p n) 0) (0 ∷ 1 ∷ 2 ∷ 3 ∷ []) k (omega arith)
      ∙ rw (number_at k (omega arith), lt-ltb k p.clocks h)

  edge_of : (e : Edge) → Memᴰ e (edges_of p) → edge_sound p.clocks p.placecount e ≡ true
  edge_of e m = all_member (edge_sound p.clocks p.placecount) (edges_of p) (parts p sound).edges.front e m

  known : (e : Edge) → Memᴰ e (edges_of p) → (g : Guard) → Memᴰ g (guards_of e) → g.clock < p.clocks
  unfolding guard_known
  known e m g i =
      let a = all_member (λ x. guard_in_range x && guard_known p.clocks x) (guards_of e) (edge-parts p.clocks p.placecount e (edge_of e m)).guards.front g i in
      ltb-true _ _ (both (guard_in_range g) (guard_known p.clocks g) a).1

  guard-held : (e : Edge) → Memᴰ e (edges_of p) → (g : Guard) → Memᴰ g (guards_of e) → (cs : Clocks) → guard_holds (held p cs) g ≡ guard_holds cs g
  unfolding held
  guard-held e m g i cs =
      let k = known e m g i in
      let few = (parts p sound).few_clocks in
      let at : clock_at (held p cs) g.clock ≡ held_at p g.clock (clock_at cs g.clock) =
      held-at (ceilings p) cs g.clock (omega arith) ∙ rw (ceiling_at g.clock k) (omega arith) in
      rw at (guards_see_held p g (in-flat_map guards_of (edges_of p) e g m i) (clock_at cs g.clock))

-- the same by radices, each a ceiling and one more
module _ (p : Pattern) where
  radix_held : (k c : ℕ) → min (cond (ltb k p.clocks) (ceiling_of p k) 0) c ≡ min c (radix_of p k - 1)
  unfolding radix_of
  radix_held k c = by (ltb k p.clocks)
    where
      by : (x : Bool) → min (cond x (ceiling_of p k) 0) c ≡ min c (cond x (ceiling_of p k + 1) 1 - 1)
      by true = omega arith
      by false = omega arith

  radices_held : (ks cs : List ℕ) → zip_with min (map (λ k. cond (ltb k p.clocks) (ceiling_of p k) 0) ks) cs ≡ zip_with (λ r c. min c (r - 1)) (map (radix_of p) ks) cs
  unfolding zip_with
  radices_held [] cs = refl
  radices_held (k ∷ ks) [] = refl
  radices_held (k ∷ ks) (c ∷ cs) = rw (radix_held k c, radices_held ks cs)

  pub held-by_radices : (cs : Clocks) → held p cs ≡ zip_with (λ r c. min c (r - 1)) (radix_of p 0 ∷ radix_of p 1 ∷ radix_of p 2 ∷ radix_of p 3 ∷ []) cs
  unfolding held
  held-by_radices cs = radices_held (0 ∷ 1 ∷ 2 ∷ 3 ∷ []) cs

pub ceilings_hold : CeilingsHold
unfolding held guards_hold after_resets
ceilings_hold p sound =
    record {
      of_zeros = zero_held (ceilings p);
      of_tick = λ cs. tick-held (ceilings p) cs;
      of_reset = λ e m cs. reset-held (ceilings p) e.resets cs;
      of_holds = λ e m cs. all_same (guard_holds (held p cs)) (guard_holds cs) (guards_of e) (λ g i. guard-held p sound e m g i cs);
    }
