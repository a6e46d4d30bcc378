-- Clocks as digits in mixed radix: their range, the number they make, and the digits of the next number.
use Prim.Native.Nat.{ℕ, zero, suc, ◌+◌, ◌-◌, ◌*◌, ◌/◌, ◌%◌, ◌^◌, ◌≤◌, ◌<◌, min}
use native.Mathlib.Omega.{arith}
use native.Mathlib.Nat.{suc-mul, le-mul_of_pos_right, mul-le-mul, mul-pos, div-add-mod', div-lt_iff_lt-mul, mod-lt, zero-div, zero-mod}
use mathlib.Core.Path.{◌≡◌, refl, sym, ap, ◌∙◌}
use mathlib.Core.List.{List, [], ◌∷◌, zip_with}
use mathlib.Core.Bool.{Bool, true, false, cond}
use lib.Arith.{digits_lt, digits_div, digits_mod}
use lib.ListN.{length, length-map, get_or}
use Rattle.pattern.specs.declared.Edge.{Edge}
use Rattle.pattern.specs.Clocks.{Clocks, later, after_resets}
use Rattle.pattern.proofs.ListLaws.{length-zip}
use Rattle.cells.specs.declared.Layout.{Layout}
use Rattle.cells.specs.Layout.{Laid}
use Rattle.cells.specs.Index.{code_of, clocks_at, held, ticked, Within}

-- ---- ranges

pub held-lt : (rs cs : List ℕ) (k : ℕ) → 0 < get_or rs k 0 → get_or (held rs cs) k 0 < get_or rs k 0
unfolding held zip_with
held-lt [] cs k h = h
held-lt (r ∷ rs) [] k h = h
held-lt (r ∷ rs) (c ∷ cs) zero h = omega arith
held-lt (r ∷ rs) (c ∷ cs) (suc k) h = held-lt rs cs k h

reset-at : (fs : List Bool) (cs : List ℕ) (k : ℕ) → get_or (zip_with (λ reset c. cond reset 0 c) fs cs) k 0 ≤ get_or cs k 0
unfolding zip_with
reset-at [] cs k = omega arith
reset-at (f ∷ fs) [] k = omega arith
reset-at (true ∷ fs) (c ∷ cs) zero = omega arith
reset-at (false ∷ fs) (c ∷ cs) zero = omega arith
reset-at (f ∷ fs) (c ∷ cs) (suc k) = reset-at fs cs k

pub reset-le : (e : Edge) (cs : List ℕ) (k : ℕ) → get_or (after_resets e cs) k 0 ≤ get_or cs k 0
unfolding after_resets
reset-le e cs k = reset-at e.resets cs k

pub ticked-within : (l : Layout) (cs : Clocks) → Laid l → Within l.radices (ticked l.radices cs)
unfolding ticked
ticked-within l cs h =
    record {
      in0 = held-lt l.radices (later 1 cs) 0 h.some0;
      in1 = held-lt l.radices (later 1 cs) 1 h.some1;
      in2 = held-lt l.radices (later 1 cs) 2 h.some2;
      in3 = held-lt l.radices (later 1 cs) 3 h.some3;
    }

pub ticked-long : (l : Layout) (cs : Clocks) → Laid l → length cs ≡ 4 → length (ticked l.radices cs) ≡ 4
unfolding ticked held
ticked-long l cs h e =
    let later-long : length (later 1 cs) ≡ 4 = length-map cs _ ∙ e in
    length-zip _ l.radices (later 1 cs) (h.four ∙ sym later-long) ∙ later-long

pub reset-within : (rs : List ℕ) (e : Edge) (cs : Clocks) → Within rs cs → Within rs (after_resets e cs)
reset-within rs e cs w =
    record {
      in0 = omega (arith, reset-le e cs 0, w.in0);
      in1 = omega (arith, reset-le e cs 1, w.in1);
      in2 = omega (arith, reset-le e cs 2, w.in2);
      in3 = omega (arith, reset-le e cs 3, w.in3);
    }

-- ---- the number that digits make

pub block-some : (l : Layout) → Laid l → 0 < l.block
block-some l h = rw h.block_is (mul-pos (mul-pos (mul-pos h.some0 h.some1) h.some2) h.some3)

pub block-small : (l : Layout) → Laid l → l.block < 2 ^ 44
block-small l h =
    let a = mul-le-mul {n₂ = 1002} {m₂ = 1002} (h.low 0) (h.low 1) in
    let b = mul-le-mul {n₂ = 1002 * 1002} {m₂ = 1002} a (h.low 2) in
    let c = mul-le-mul {n₂ = 1002 * 1002 * 1002} {m₂ = 1002} b (h.low 3) in
    omega (arith, h.block_is)

-- each number on the way, and the whole
pub record Coded (l : Layout) (cs : Clocks) : Type 0 where
  pub two : get_or cs 0 0 * get_or l.radices 1 0 + get_or cs 1 0 < l.block
  pub three : (get_or cs 0 0 * get_or l.radices 1 0 + get_or cs 1 0) * get_or l.radices 2 0 + get_or cs 2 0 < l.block
  pub whole : code_of l.radices cs < l.block

pub coded : (l : Layout) (cs : Clocks) → Laid l → Within l.radices cs → Coded l cs
unfolding code_of
coded l cs h w =
    let r = l.radices in
    let a = digits_lt w.in0 w.in1 in
    let b = digits_lt a w.in2 in
    let d = digits_lt b w.in3 in
    let m = le-mul_of_pos_right (get_or l.radices 0 0 * get_or l.radices 1 0) h.some2 in
    let n = le-mul_of_pos_right (get_or l.radices 0 0 * get_or l.radices 1 0 * get_or l.radices 2 0) h.some3 in
    let e = h.block_is in
    record { two = omega arith; three = omega arith; whole = omega arith }

-- ---- the digits of a number are the only ones that make it

pub four_is : (cs : List ℕ) → length cs ≡ 4 → cs ≡ get_or cs 0 0 ∷ get_or cs 1 0 ∷ get_or cs 2 0 ∷ get_or cs 3 0 ∷ []
four_is [] e = absurd (omega arith)
four_is (a ∷ []) e = absurd (omega arith)
four_is (a ∷ b ∷ []) e = absurd (omega arith)
four_is (a ∷ b ∷ c ∷ []) e = absurd (omega arith)
four_is (a ∷ b ∷ c ∷ d ∷ []) e = refl
four_is (a ∷ b ∷ c ∷ d ∷ x ∷ xs) e = absurd (omega arith)

four_same : (a b c d a' b' c' d' : ℕ) → a ≡ a' → b ≡ b' → c ≡ c' → d ≡ d' → ◌≡◌ {A = List ℕ} (a ∷ b ∷ c ∷ d ∷ []) (a' ∷ b' ∷ c' ∷ d' ∷ [])
four_same a b c d a' b' c' d' e f g h = rw (e, f, g, h)

-- digits a, b, c, d below their radices, but for a, make k exactly if they are the clocks at k
pub decoded : (rs : List ℕ) (a b c d k : ℕ) → b < get_or rs 1 0 → c < get_or rs 2 0 → d < get_or rs 3 0 → ((a * get_or rs 1 0 + b) * get_or rs 2 0 + c) * get_or rs 3 0 + d ≡ k → clocks_at rs k ≡ a ∷ b ∷ c ∷ d ∷ []
unfolding clocks_at
decoded rs a b c d k hb hc hd e =
    let y = a * get_or rs 1 0 + b in
    let x = (a * get_or rs 1 0 + b) * get_or rs 2 0 + c in
    let k3 : k / get_or rs 3 0 ≡ (a * get_or rs 1 0 + b) * get_or rs 2 0 + c = rw (← e) (digits_div ((a * get_or rs 1 0 + b) * get_or rs 2 0 + c) hd) in
    let m3 : k % get_or rs 3 0 ≡ d = rw (← e) (digits_mod ((a * get_or rs 1 0 + b) * get_or rs 2 0 + c) hd) in
    let k2 : k / get_or rs 3 0 / get_or rs 2 0 ≡ a * get_or rs 1 0 + b = ap (λ (z : ℕ). z / get_or rs 2 0) k3 ∙ digits_div (a * get_or rs 1 0 + b) hc in
    let m2 : k / get_or rs 3 0 % get_or rs 2 0 ≡ c = ap (λ (z : ℕ). z % get_or rs 2 0) k3 ∙ digits_mod (a * get_or rs 1 0 + b) hc in
    let k1 : k / get_or rs 3 0 / get_or rs 2 0 / get_or rs 1 0 ≡ a = ap (λ (z : ℕ). z / get_or rs 1 0) k2 ∙ digits_div a hb in
    let m1 : k / get_or rs 3 0 / get_or rs 2 0 % get_or rs 1 0 ≡ b = ap (λ (z : ℕ). z % get_or rs 1 0) k2 ∙ digits_mod a hb in
    four_same _ _ _ _ _ _ _ _ k1 m1 m2 m3

pub clocks_of_code : (rs : List ℕ) (cs : Clocks) → length cs ≡ 4 → Within rs cs → clocks_at rs (code_of rs cs) ≡ cs
unfolding code_of
clocks_of_code rs cs e w =
    decoded rs (get_or cs 0 0) (get_or cs 1 0) (get_or cs 2 0) (get_or cs 3 0) _ w.in1 w.in2 w.in3 refl ∙ sym (four_is cs e)

-- the clocks at k: their range, and that they make k
pub record Decoded (rs : List ℕ) (k : ℕ) : Type 0 where
  pub in1 : get_or (clocks_at rs k) 1 0 < get_or rs 1 0
  pub in2 : get_or (clocks_at rs k) 2 0 < get_or rs 2 0
  pub in3 : get_or (clocks_at rs k) 3 0 < get_or rs 3 0
  pub code : code_of rs (clocks_at rs k) ≡ k

pub code_of_clocks : (l : Layout) (k : ℕ) → Laid l → Decoded l.radices k
unfolding clocks_at code_of
code_of_clocks l k h =
    let r1 = get_or l.radices 1 0 in
    let r2 = get_or l.radices 2 0 in
    let r3 = get_or l.radices 3 0 in
    let a = div-add-mod' (k / get_or l.radices 3 0 / get_or l.radices 2 0) (get_or l.radices 1 0) in
    let b = div-add-mod' (k / get_or l.radices 3 0) (get_or l.radices 2 0) in
    let c = div-add-mod' k (get_or l.radices 3 0) in
    record {
      in1 = mod-lt (k / get_or l.radices 3 0 / get_or l.radices 2 0) h.some1;
      in2 = mod-lt (k / get_or l.radices 3 0) h.some2;
      in3 = mod-lt k h.some3;
      code = rw (a, b) c;
    }

-- a block's cells have clocks below every radix
pub clocks-within : (l : Layout) (k : ℕ) → Laid l → k < l.block → Within l.radices (clocks_at l.radices k)
unfolding clocks_at
clocks-within l k h below =
    let d = code_of_clocks l k h in
    let e = h.block_is in
    let k3 = (div-lt_iff_lt-mul {x = k} {y = get_or l.radices 0 0 * get_or l.radices 1 0 * get_or l.radices 2 0} h.some3).1 (omega arith) in
    let k2 = (div-lt_iff_lt-mul {x = k / get_or l.radices 3 0} {y = get_or l.radices 0 0 * get_or l.radices 1 0} h.some2).1 k3 in
    let k1 = (div-lt_iff_lt-mul {x = k / get_or l.radices 3 0 / get_or l.radices 2 0} {y = get_or l.radices 0 0} h.some1).1 k2 in
    record { in0 = k1; in1 = d.in1; in2 = d.in2; in3 = d.in3 }

-- ---- the next cell's clocks

carry : (x r d : ℕ) → d + 1 ≡ r → (x + 1) * r + 0 ≡ x * r + d + 1
carry x r d e =
    let f : x + 1 ≡ suc x = omega arith in
    rw f (omega (arith, suc-mul x r))

-- cs are the clocks at k
module _ (rs : List ℕ) (a b c d k : ℕ) (hb : b < get_or rs 1 0) (hc : c < get_or rs 2 0) (hd : d < get_or rs 3 0) (e : ((a * get_or rs 1 0 + b) * get_or rs 2 0 + c) * get_or rs 3 0 + d ≡ k) where
  pub next-3 : d + 1 < get_or rs 3 0 → clocks_at rs (k + 1) ≡ a ∷ b ∷ c ∷ (d + 1) ∷ []
  next-3 h = decoded rs a b c (d + 1) (k + 1) hb hc h (omega arith)

  pub next-2 : d + 1 ≡ get_or rs 3 0 → c + 1 < get_or rs 2 0 → clocks_at rs (k + 1) ≡ a ∷ b ∷ (c + 1) ∷ 0 ∷ []
  next-2 z h =
      let f : (a * get_or rs 1 0 + b) * get_or rs 2 0 + (c + 1) ≡ (a * get_or rs 1 0 + b) * get_or rs 2 0 + c + 1 = omega arith in
      let g = carry ((a * get_or rs 1 0 + b) * get_or rs 2 0 + c) (get_or rs 3 0) d z in
      decoded rs a b (c + 1) 0 (k + 1) hb h (omega arith) (rw f (omega arith))

  pub next_1 : d + 1 ≡ get_or rs 3 0 → c + 1 ≡ get_or rs 2 0 → b + 1 < get_or rs 1 0 → clocks_at rs (k + 1) ≡ a ∷ (b + 1) ∷ 0 ∷ 0 ∷ []
  next_1 z y h =
      let f : a * get_or rs 1 0 + (b + 1) ≡ a * get_or rs 1 0 + b + 1 = omega arith in
      let i = carry (a * get_or rs 1 0 + b) (get_or rs 2 0) c y in
      let g = carry ((a * get_or rs 1 0 + b) * get_or rs 2 0 + c) (get_or rs 3 0) d z in
      decoded rs a (b + 1) 0 0 (k + 1) h (omega arith) (omega arith) (rw (f, i) (omega arith))

  pub next-0 : d + 1 ≡ get_or rs 3 0 → c + 1 ≡ get_or rs 2 0 → b + 1 ≡ get_or rs 1 0 → clocks_at rs (k + 1) ≡ (a + 1) ∷ 0 ∷ 0 ∷ 0 ∷ []
  next-0 z y x =
      let j = carry a (get_or rs 1 0) b x in
      let i = carry (a * get_or rs 1 0 + b) (get_or rs 2 0) c y in
      let g = carry ((a * get_or rs 1 0 + b) * get_or rs 2 0 + c) (get_or rs 3 0) d z in
      decoded rs (a + 1) 0 0 0 (k + 1) (omega arith) (omega arith) (omega arith) (rw (j, i) (omega arith))

-- what is known of the clocks at k
pub record Turned (l : Layout) (k : ℕ) (cs : Clocks) : Type 0 where
  pub within : Within l.radices cs
  pub code : ((get_or cs 0 0 * get_or l.radices 1 0 + get_or cs 1 0) * get_or l.radices 2 0 + get_or cs 2 0) * get_or l.radices 3 0 + get_or cs 3 0 ≡ k

pub turned : (l : Layout) (k : ℕ) (cs : Clocks) → Laid l → k < l.block → cs ≡ clocks_at l.radices k → Turned l k cs
unfolding code_of
turned l k cs h below e =
    rw e (record { within = clocks-within l k h below; code = (code_of_clocks l k h).code })

-- the clocks of a block's first cell
pub clocks-zero : (rs : List ℕ) → clocks_at rs 0 ≡ 0 ∷ 0 ∷ 0 ∷ 0 ∷ []
unfolding clocks_at
clocks-zero rs =
    four_same _ _ _ _ _ _ _ _
    (rw (zero-div, zero-div) (zero-div (get_or rs 1 0)))
    (rw (zero-div, zero-div) (zero-mod (get_or rs 1 0)))
    (rw zero-div (zero-mod (get_or rs 2 0)))
    (zero-mod (get_or rs 3 0))

-- ---- one tick, clock by clock

pub ticked-four : (rs cs : List ℕ) → length rs ≡ 4 → length cs ≡ 4 → ticked rs cs ≡ (min (get_or cs 0 0 + 1) (get_or rs 0 0 - 1) ∷ min (get_or cs 1 0 + 1) (get_or rs 1 0 - 1) ∷ min (get_or cs 2 0 + 1) (get_or rs 2 0 - 1) ∷ min (get_or cs 3 0 + 1) (get_or rs 3 0 - 1) ∷ [])
unfolding ticked held zip_with
ticked-four rs cs e f = rw (four_is rs e, four_is cs f)
