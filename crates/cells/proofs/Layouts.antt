-- A sound pattern's layout fits together, and its cells are the cells needed.
use Prim.Native.Nat.{ℕ, zero, suc, ◌+◌, ◌*◌, ◌^◌, ◌≤◌, ◌<◌}
use native.Mathlib.Omega.{arith}
use native.Mathlib.Nat.{one-mul, mul_assoc, mul-le-mul}
use mathlib.Core.Path.{◌≡◌, refl, sym, ap, ◌∙◌}
use mathlib.Core.Bool.{Bool, true, false, cond}
use mathlib.Core.List.{[], ◌∷◌}
use lib.Dec.{ltb, lit≤}
use lib.ListN.{get_or}
use Rattle.pattern.specs.declared.Pattern.{Pattern}
use Rattle.pattern.specs.Sound.{sound_of}
use Rattle.pattern.specs.Cells.{ceiling_of, radix_of, radix_product, cells_for}
use Rattle.pattern.proofs.SoundLaws.{parts}
use Rattle.pattern.proofs.CellLaws.{radix_low, product_fits, four_radices}
use Rattle.cells.specs.declared.Layout.{Layout}
use Rattle.cells.specs.Layout.{layout_of, LayoutLaid, LayoutCells}

pub radix_some : (p : Pattern) (k : ℕ) → 0 < radix_of p k
unfolding radix_of
radix_some p k = by (ltb k p.clocks)
  where
    by : (t : Bool) → 0 < cond t (ceiling_of p k + 1) 1
    by true = omega arith
    by false = omega arith

pub product_four : (p : Pattern) → radix_product p 4 ≡ radix_of p 0 * radix_of p 1 * radix_of p 2 * radix_of p 3
unfolding radix_product
product_four p = rw one-mul

pub layout-laid : LayoutLaid
unfolding layout_of
layout-laid p longest h short =
    let few : p.placecount ≤ 16 = (parts p h).places.few in
    let fits = product_fits p 4 h (lit≤ tt) in
    let width : 2 * p.placecount ≤ 32 = omega arith in
    let row = mul-le-mul {n₁ = 2 * p.placecount} {m₁ = radix_product p 4} {n₂ = 32} {m₂ = 2 ^ 40} width (omega arith) in
    let all = mul-le-mul {n₁ = longest + 1} {m₁ = 2 * p.placecount * radix_product p 4} {n₂ = 65536} {m₂ = 32 * 2 ^ 40} (omega arith) row in
    record {
      four = refl;
      some0 = radix_some p 0;
      some1 = radix_some p 1;
      some2 = radix_some p 2;
      some3 = radix_some p 3;
      block_is = product_four p;
      low = each;
      row_is = refl;
      few = few;
      short = short;
      small = omega arith;
    }
  where
    each : (k : ℕ) → get_or (radix_of p 0 ∷ radix_of p 1 ∷ radix_of p 2 ∷ radix_of p 3 ∷ []) k 0 ≤ 1002
    each zero = radix_low p 0 h
    each (suc zero) = radix_low p 1 h
    each (suc (suc zero)) = radix_low p 2 h
    each (suc (suc (suc zero))) = radix_low p 3 h
    each (suc (suc (suc (suc k)))) = omega arith

-- "Cells needed: (high + 1) × 2 × places × the product over clocks of (ceiling + 1)"
pub cells-in-layout : LayoutCells
unfolding layout_of cells_for
cells-in-layout p longest h =
    rw (← four_radices p (parts p h).few_clocks)
    (sym (ap (λ (x : ℕ). x * radix_product p 4) (mul_assoc (longest + 1) 2 p.placecount) ∙ mul_assoc (longest + 1) (2 * p.placecount) (radix_product p 4)))

-- the products on the way fit 64 bits
pub record Products (p : Pattern) (a b c d : ℕ) : Type 0 where
  pub two : a * b < 2 ^ 40
  pub three : a * b * c < 2 ^ 40
  pub block : a * b * c * d < 2 ^ 40
  pub row : 2 * p.placecount * (a * b * c * d) < 2 ^ 62

pub products : (p : Pattern) (a b c d : ℕ) → sound_of p ≡ true → a ≡ radix_of p 0 → b ≡ radix_of p 1 → c ≡ radix_of p 2 → d ≡ radix_of p 3 → Products p a b c d
unfolding radix_product
products p a b c d h ea eb ec ed =
    let few : p.placecount ≤ 16 = (parts p h).places.few in
    let one = one-mul (radix_of p 0) in
    let two : radix_of p 0 * radix_of p 1 < 2 ^ 40 = rw one at (product_fits p 2 h (lit≤ tt)) in
    let three : radix_of p 0 * radix_of p 1 * radix_of p 2 < 2 ^ 40 = rw one at (product_fits p 3 h (lit≤ tt)) in
    let all : radix_of p 0 * radix_of p 1 * radix_of p 2 * radix_of p 3 < 2 ^ 40 = rw one at (product_fits p 4 h (lit≤ tt)) in
    let row = mul-le-mul {n₁ = 2 * p.placecount} {m₁ = radix_of p 0 * radix_of p 1 * radix_of p 2 * radix_of p 3} {n₂ = 32} {m₂ = 2 ^ 40} (omega arith) (omega arith) in
    rw (ea, eb, ec, ed) (record { two = two; three = three; block = all; row = omega arith })

pub layout_is : (p : Pattern) (longest a b c d : ℕ) → a ≡ radix_of p 0 → b ≡ radix_of p 1 → c ≡ radix_of p 2 → d ≡ radix_of p 3
    → ◌≡◌ {A = Layout} (record { high = longest; places = p.placecount; radices = a ∷ b ∷ c ∷ d ∷ []; block = a * b * c * d; row = 2 * p.placecount * (a * b * c * d) }) (layout_of p longest)
unfolding layout_of
layout_is p longest a b c d ea eb ec ed = rw (ea, eb, ec, ed, product_four p)
