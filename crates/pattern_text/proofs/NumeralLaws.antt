-- Numerals are read as they are written.
use Prim.Native.Nat.{ℕ, zero, suc, ◌+◌, ◌-◌, ◌*◌, ◌/◌, ◌%◌, ◌≤◌, ◌<◌}
use mathlib.Core.Path.{◌≡◌, refl, sym, ap, ◌∙◌}
use mathlib.Core.Logic.{◌↔◌}
use mathlib.Core.List.{[], ◌∷◌, ◌++◌, append_assoc, append-nil}
use mathlib.Core.Bool.{Bool, true, false, cond, not}
use native.Mathlib.Omega.{arith}
use lib.Dec.{leb, ltb, eqb}
use lib.Arith.{digits_div, digits_mod}
use borrow.Author.Tests.{ltb-true, ltb-false, lt-ltb, le-ltb, leb-true, le-leb, ne_eqb, eqb-false, not-true}
use Rattle.pattern.specs.Slots.{all}
use Rattle.pattern_text.specs.Bytes.{Bytes, got, broken}
use Rattle.pattern_text.specs.Numeral.{decimal_f, decimal, is_digit, starts_digit, front, after, plain, value_from, numeral_of}
use Rattle.pattern_text.proofs.Tools.{both, all_append, by-test}

-- ---- the equations of `decimal`, and induction digit by digit

same : (f g n : ℕ) → n < f → n < g → decimal_f f n ≡ decimal_f g n
unfolding decimal_f
same zero g n p q = absurd (omega arith)
same (suc f) zero n p q = absurd (omega arith)
same (suc f) (suc g) n p q = by-test (ltb n 10)
    (λ t. rw t)
    (λ t. let h = ltb-false n 10 t in rw t (ap (λ (b : Bytes). b ++ ((48 + n % 10) ∷ [])) (same f g (n / 10) (omega arith) (omega arith))))

pub decimal-small : (n : ℕ) → n < 10 → decimal n ≡ (48 + n) ∷ []
unfolding decimal decimal_f
decimal-small n h = rw (lt-ltb n 10 h)

pub decimal_large : (n : ℕ) → 10 ≤ n → decimal n ≡ decimal (n / 10) ++ ((48 + n % 10) ∷ [])
unfolding decimal decimal_f
decimal_large n h = rw (le-ltb n 10 h) (ap (λ (b : Bytes). b ++ ((48 + n % 10) ∷ [])) (same n (suc (n / 10)) (n / 10) (omega arith) (omega arith)))

pub by_digits : (P : ℕ → Type 0) → ((n : ℕ) → n < 10 → P n) → ((n : ℕ) → 10 ≤ n → P (n / 10) → P n) → (n : ℕ) → P n
by_digits P small large n = go (suc n) n (omega arith)
  where
    go : (f m : ℕ) → m < f → P m
    go zero m h = absurd (omega arith)
    go (suc f) m h = by-test (ltb m 10)
        (λ t. small m (ltb-true m 10 t))
        (λ t. let l = ltb-false m 10 t in large m l (go f (m / 10) (omega arith)))

-- ---- a number's digits are digits, without a leading zero, and have its value

digit : (d : ℕ) → d < 10 → is_digit (48 + d) ≡ true
digit d h = rw (le-leb 48 (48 + d) (omega arith), lt-ltb (48 + d) 58 (omega arith))

pub digits_of : (n : ℕ) → all is_digit (decimal n) ≡ true
digits_of = by_digits (λ n. all is_digit (decimal n) ≡ true)
    (λ n h. rw (decimal-small n h, digit n h))
    (λ n h k. rw (decimal_large n h) (all_append is_digit (decimal (n / 10)) ((48 + n % 10) ∷ []) k (rw (digit (n % 10) (omega arith)))))

-- a number that is not 0 does not begin with `0`
abbrev NoZero : Bytes → Type 0
NoZero [] = ⊥
NoZero (c ∷ b) = eqb c 48 ≡ false

no_zero : (n : ℕ) → 0 < n → NoZero (decimal n)
no_zero = by_digits (λ n. 0 < n → NoZero (decimal n))
    (λ n h k. rw (decimal-small n h) (ne_eqb (48 + n) 48 (λ e. omega arith)))
    (λ n h k l. rw (decimal_large n h) (grow (decimal (n / 10)) (48 + n % 10) (k (omega arith))))
  where
    grow : (b : Bytes) (c : ℕ) → NoZero b → NoZero (b ++ (c ∷ []))
    grow [] c h = absurd h
    grow (d ∷ b) c h = h

plain_of : (n : ℕ) → plain (decimal n) ≡ true
unfolding plain
plain_of n = by-test (ltb n 10)
    (λ t. rw (decimal-small n (ltb-true n 10 t)))
    (λ t. let h = ltb-false n 10 t in more (decimal n) (no_zero n (omega arith)))
  where
    more : (b : Bytes) → NoZero b → plain b ≡ true
    more [] h = absurd h
    more (c ∷ []) h = refl
    more (c ∷ d ∷ b) h = ap not h

value-append : (v : ℕ) (b : Bytes) (c : ℕ) → value_from v (b ++ (c ∷ [])) ≡ value_from v b * 10 + (c - 48)
unfolding value_from
value-append v [] c = refl
value-append v (d ∷ b) c = value-append (v * 10 + (d - 48)) b c

value_of : (n : ℕ) → value_from 0 (decimal n) ≡ n
unfolding value_from
value_of = by_digits (λ n. value_from 0 (decimal n) ≡ n)
    (λ n h. rw (decimal-small n h) (omega arith))
    (λ n h k. rw (decimal_large n h, value-append 0 (decimal (n / 10)) (48 + n % 10), k) (omega arith))

-- ---- digits without a leading zero are their value's

pub is_digit_lem : (c : ℕ) → is_digit c ≡ true → (48 ≤ c) × (c < 58)
is_digit_lem c t = let k = both (leb 48 c) (ltb c 58) t in (leb-true 48 c k.0, ltb-true c 58 k.1)

decimal_step : (q c : ℕ) → 0 < q → is_digit c ≡ true → decimal (q * 10 + (c - 48)) ≡ decimal q ++ (c ∷ [])
decimal_step q c h t =
    let k = is_digit_lem c t in
    decimal_large (q * 10 + (c - 48)) (omega arith)
    ∙ rw (digits_div q {m = 10} {r = c - 48} (omega arith), digits_mod q {m = 10} {r = c - 48} (omega arith))
    (ap (λ (d : ℕ). decimal q ++ (d ∷ [])) (omega arith))

from : (v : ℕ) (b : Bytes) → 0 < v → all is_digit b ≡ true → decimal (value_from v b) ≡ decimal v ++ b
unfolding value_from
from v [] h t = sym (append-nil (decimal v))
from v (c ∷ b) h t =
    from (v * 10 + (c - 48)) b (omega arith) (both (is_digit c) (all is_digit b) t).1
    ∙ rw (decimal_step v c h (both (is_digit c) (all is_digit b) t).0) (append_assoc (decimal v) (c ∷ []) b)

decimal-value : (b : Bytes) → all is_digit b ≡ true → plain b ≡ true → decimal (value_from 0 b) ≡ b
unfolding value_from plain
decimal-value [] t p = let z : ◌≡◌ {A = ℕ} 0 1 = cc in absurd (omega arith)
decimal-value (c ∷ []) t p = let k = is_digit_lem c (both (is_digit c) true t).0 in decimal-small (0 * 10 + (c - 48)) (omega arith) ∙ ap (λ (d : ℕ). d ∷ []) (omega arith)
decimal-value (c ∷ d ∷ b) t p =
    let k = is_digit_lem c (both (is_digit c) (all is_digit (d ∷ b)) t).0 in
    let l = eqb-false c 48 (not-true (eqb c 48) p) in
    from (0 * 10 + (c - 48)) (d ∷ b) (omega arith) (both (is_digit c) (all is_digit (d ∷ b)) t).1
    ∙ rw (decimal-small (0 * 10 + (c - 48)) (omega arith)) (ap (λ (x : ℕ). x ∷ d ∷ b) (omega arith))

-- ---- the digits at the front

pub front-after : (b : Bytes) → b ≡ front b ++ after b
unfolding front after
front-after [] = refl
front-after (c ∷ b) = by-test (is_digit c) (λ t. rw t (ap (◌∷◌ c) (front-after b))) (λ t. rw t)

front-digits : (b : Bytes) → all is_digit (front b) ≡ true
unfolding front
front-digits [] = refl
front-digits (c ∷ b) = by-test (is_digit c) (λ t. rw (t, t) (front-digits b)) (λ t. rw t)

after_none : (b : Bytes) → starts_digit (after b) ≡ false
unfolding after
after_none [] = refl
after_none (c ∷ b) = by-test (is_digit c) (λ t. rw t (after_none b)) (λ t. rw (t, t))

-- at digits, and then none
cut : (b r : Bytes) → all is_digit b ≡ true → starts_digit r ≡ false → (front (b ++ r) ≡ b) × (after (b ++ r) ≡ r)
unfolding front after
cut [] [] t h = (refl, refl)
cut [] (c ∷ r) t h = (rw h, rw h)
cut (c ∷ b) r t h =
    let k = both (is_digit c) (all is_digit b) t in
    (rw k.0 (ap (◌∷◌ c) (cut b r k.1 h).0), rw k.0 (cut b r k.1 h).1)

-- A text begins with the numeral of n, and then no digit, exactly if reading gives n and the rest.
pub numeral : (b : Bytes) (n : ℕ) (r : Bytes) → (numeral_of b ≡ got n r) ↔ ((b ≡ decimal n ++ r) × (starts_digit r ≡ false))
unfolding numeral_of
numeral b n r = (to (plain (front b)) refl, λ h. rw (h.0, (cut (decimal n) r (digits_of n) h.1).0, (cut (decimal n) r (digits_of n) h.1).1, plain_of n, value_of n))
  where
    to : (t : Bool) → plain (front b) ≡ t → cond t (got (value_from 0 (front b)) (after b)) broken ≡ got n r → (b ≡ decimal n ++ r) × (starts_digit r ≡ false)
    to true t e =
        let v : value_from 0 (front b) ≡ n = cc in
        let w : after b ≡ r = cc in
        (front-after b ∙ rw (← v, ← w) (rw (decimal-value (front b) (front-digits b) t)), rw (← w) (after_none b))
    to false t e = let z : ◌≡◌ {A = ℕ} 0 1 = cc in absurd (omega arith)

pub no_numeral : (c : ℕ) (b : Bytes) → is_digit c ≡ false → numeral_of (c ∷ b) ≡ broken
unfolding numeral_of front plain
no_numeral c b h = rw h
