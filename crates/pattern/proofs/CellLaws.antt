-- The cells of a sound pattern: how large they come, and that four radices are the pattern's clocks.
use Prim.Native.Nat.{ℕ, zero, suc, ◌+◌, ◌-◌, ◌*◌, ◌^◌, ◌≤◌, ◌<◌}
use native.Mathlib.Nat.{mul-le-mul, mul-one, pow-suc, pow-le-pow_right, add-zero, add-suc}
use native.Mathlib.Omega.{arith}
use mathlib.Core.Path.{◌≡◌, refl, sym, ap, subst, ◌∙◌}
use mathlib.Core.List.{List, [], ◌∷◌, map, flat_map}
use lib.ListN.{length, take}
use lib.Seq.{take-nil}
use Rattle.std.specs.List.{fold, range_with_len}
use Rattle.std.specs.Iterator.{Yields}
use Rattle.std.specs.Iterator.Runs.{EachRunFrom, YieldsRun}
use Rattle.std.specs.Prelude.{Option}
use Rattle.std.proofs.lemmas.List.{map-id}
use Rattle.std.proofs.lemmas.Iterator.{YieldsList}
use Rattle.std.proofs.lemmas.Iterator.Consumers.{YieldsList-so_far}
use mathlib.Core.Bool.{Bool, true, false, cond, ◌&&◌}
use borrow.Author.Tests.{leb-true, lt-ltb, le-ltb}
use lib.Dec.{eqb, ltb, lit≤}
use Rattle.pattern.specs.declared.Guard.{Guard}
use Rattle.pattern.specs.declared.Edge.{Edge}
use Rattle.pattern.specs.declared.Pattern.{Pattern}
use Rattle.pattern.specs.InUse.{guards_of, edges_of}
use Rattle.pattern.specs.Slots.{all}
use Rattle.pattern.specs.Sound.{guard_in_range, guard_known, edge_sound, sound_of}
use Rattle.pattern.specs.Cells.{bounds_on, largest, ceiling_of, radix_of, clock_cells, radix_product, cells_for, cells_needed, FourRadices, CellsFit}
use Rattle.pattern.proofs.SoundLaws.{both, parts, edge-parts}
use Rattle.pattern.proofs.CeilingLaws.{largest-on}

-- ---- no bound of a sound pattern is over 1,000

guards-low : (clocks k : ℕ) (gs : List Guard) → all (λ g. guard_in_range g && guard_known clocks g) gs ≡ true → largest (bounds_on k gs) ≤ 1000
unfolding bounds_on largest guard_in_range
guards-low clocks k [] h = omega arith
guards-low clocks k (g ∷ gs) h =
    let here = both (guard_in_range g && guard_known clocks g) (all (λ x. guard_in_range x && guard_known clocks x) gs) h in
    by (eqb g.clock k) (leb-true _ _ (both (guard_in_range g) (guard_known clocks g) here.0).0) (guards-low clocks k gs here.1)
  where
    by : (t : Bool) → g.bound ≤ 1000 → largest (bounds_on k gs) ≤ 1000 → largest (cond t (g.bound ∷ bounds_on k gs) (bounds_on k gs)) ≤ 1000
    by true b l = omega arith
    by false b l = l

edges-low : (clocks places k : ℕ) (es : List Edge) → all (edge_sound clocks places) es ≡ true → largest (bounds_on k (flat_map guards_of es)) ≤ 1000
unfolding flat_map bounds_on largest
edges-low clocks places k [] h = omega arith
edges-low clocks places k (e ∷ es) h =
    let here = both (edge_sound clocks places e) (all (edge_sound clocks places) es) h in
    omega (arith, guards-low clocks k (guards_of e) (edge-parts clocks places e here.0).guards.front, edges-low clocks places k es here.1, largest-on k (guards_of e) (flat_map guards_of es))

pub ceiling_low : (p : Pattern) (k : ℕ) → sound_of p ≡ true → ceiling_of p k ≤ 1001
unfolding ceiling_of
ceiling_low p k h = let l = edges-low p.clocks p.placecount k (edges_of p) (parts p h).edges.front in omega arith

pub radix_low : (p : Pattern) (k : ℕ) → sound_of p ≡ true → radix_of p k ≤ 1002
unfolding radix_of
radix_low p k h = by (ltb k p.clocks) (ceiling_low p k h)
  where
    by : (t : Bool) → ceiling_of p k ≤ 1001 → cond t (ceiling_of p k + 1) 1 ≤ 1002
    by true l = omega arith
    by false l = omega arith

-- n radices at a time: at most 1,002 each
pub product_low : (p : Pattern) (n : ℕ) → sound_of p ≡ true → radix_product p n ≤ 1002 ^ n
unfolding radix_product
product_low p zero h = omega arith
product_low p (suc n) h = rw (pow-suc 1002 n) (mul-le-mul (product_low p n h) (radix_low p n h))

-- so that each product on the way to four fits 64 bits
pub product_fits : (p : Pattern) (n : ℕ) → sound_of p ≡ true → n ≤ 4 → radix_product p n < 2 ^ 40
product_fits p n h l = let k = product_low p n h in let m : 1002 ^ n ≤ 1002 ^ 4 = pow-le-pow_right (omega arith) l in omega arith

-- and so does the product of those that came, wherever they stop
pub radices_fit : {S : Type 0} {steps : S → Option ℕ → S → Type 0} {s : S} (p : Pattern) → sound_of p ≡ true
    → YieldsList steps (λ x. x) s (map (radix_of p) (range_with_len 0 4)) → EachRunFrom steps s (λ q. fold (λ a x. a * x) 1 q.items < 2 ^ 64)
unfolding YieldsRun radix_product
radices_fit {S} {steps} {s} p h road = λ q _ at.
    let came : Yields steps s q.items q.gave.0.0 = subst (λ u. Yields steps u q.items q.gave.0.0) at q.gave.0.1 in
    let items = sym (YieldsList-so_far road q.items q.gave.0.0 came) ∙ map-id q.items in
    subst (λ (xs : List ℕ). fold (λ a x. a * x) 1 xs < 2 ^ 64) items (by (length q.items))
  where
    by : (m : ℕ) → fold (λ a x. a * x) 1 (take m (map (radix_of p) (range_with_len 0 4))) < 2 ^ 64
    by zero = omega arith
    by (suc zero) = let l : radix_product p 1 < 2 ^ 40 = product_fits p 1 h (lit≤ tt) in omega arith
    by (suc (suc zero)) = let l : radix_product p 2 < 2 ^ 40 = product_fits p 2 h (lit≤ tt) in omega arith
    by (suc (suc (suc zero))) = let l : radix_product p 3 < 2 ^ 40 = product_fits p 3 h (lit≤ tt) in omega arith
    by (suc (suc (suc (suc m)))) = let l : radix_product p 4 < 2 ^ 40 = product_fits p 4 h (lit≤ tt) in rw (take-nil {A = ℕ} m) (omega arith)

-- ---- four radices

pub four_radices : FourRadices
unfolding radix_product clock_cells radix_of
four_radices p h =
    let n : 4 ≡ p.clocks + (4 - p.clocks) = omega arith in
    ap (radix_product p) n ∙ lacked (4 - p.clocks) ∙ had p.clocks (omega arith)
  where
    had : (n : ℕ) → n ≤ p.clocks → radix_product p n ≡ clock_cells p n
    had zero l = refl
    had (suc n) l = rw (lt-ltb n p.clocks l, had n (omega arith))

    lacked : (m : ℕ) → radix_product p (p.clocks + m) ≡ radix_product p p.clocks
    lacked zero = rw (add-zero p.clocks)
    lacked (suc m) = rw (add-suc p.clocks m, le-ltb (p.clocks + m) p.clocks (omega arith), mul-one (radix_product p (p.clocks + m))) (lacked m)

-- ---- all cells of a sound pattern

pub front_low : (p : Pattern) → sound_of p ≡ true → (p.high + 1) * 2 * p.placecount ≤ 131072
front_low p h =
    let s = parts p h in
    let few : p.placecount ≤ 16 = s.places.few in
    let long : (p.high + 1) * 2 ≤ 8192 = let high = s.short_high in omega arith in
    mul-le-mul {n₂ = 8192} {m₂ = 16} long few

pub all-low : (p : Pattern) → sound_of p ≡ true → (p.high + 1) * 2 * p.placecount * radix_product p 4 < 2 ^ 64
all-low p h =
    let k : radix_product p 4 ≤ 2 ^ 40 = omega (arith, product_fits p 4 h (lit≤ tt)) in
    let l = mul-le-mul {n₂ = 131072} {m₂ = 2 ^ 40} (front_low p h) k in
    omega arith

pub needed_is : (p : Pattern) → sound_of p ≡ true → (p.high + 1) * 2 * p.placecount * radix_product p 4 ≡ cells_needed p
unfolding cells_needed cells_for
needed_is p h = rw (four_radices p (parts p h).few_clocks)

pub cells_fit : CellsFit
cells_fit p h = rw (needed_is p h) at (all-low p h)
