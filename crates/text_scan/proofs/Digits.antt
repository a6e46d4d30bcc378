-- Digits at the front of a text, one by one.
use Rattle.std.proofs.Common.{◌≡◌, ℕ, ◌+◌, ◌-◌, ◌*◌, min, true, false, cond, [], ◌∷◌, refl, sym, ap, ◌∙◌, arith}
use Rattle.std.specs.Prelude.{Option, Some, None, is_some}
use Rattle.std.specs.Borrow.{Bor}
use borrow.Author.Tests.{eq-eqb, eqb-true}
use lib.Dec.{eqb}
use Rattle.pattern_text.specs.Bytes.{Bytes, got, broken}
use Rattle.pattern_text.specs.Numeral.{is_digit, front, after, value_from, plain, numeral_of}
use Rattle.pattern_text.proofs.Tools.{by-test, never}
use Rattle.pattern_text.proofs.NumeralLaws.{is_digit_lem}
use Rattle.pattern_text.proofs.ForCode.{value-held}
use Rattle.text_scan.specs.Scan.{read_of, digit_of, held_digit}

-- a digit at the front of b, and r after it
pub record Digit (b : Bytes) (d : ℕ) (r : Bytes) : Type 0 where
  pub byte : ℕ
  pub is : b ≡ byte ∷ r
  pub digit : is_digit byte ≡ true
  pub worth : d ≡ byte - 48

pub digit_there : (b : Bytes) {d : ℕ} {r : Bytes} → got d r ≡ digit_of b → Digit b d r
digit_there [] e = never (sym e)
digit_there (c ∷ b) e = by-test (is_digit c)
    (λ t. let k = rw t at e in record { byte = c; is = (cc); digit = t; worth = (cc) })
    (λ t. let k = rw t at e in never (sym k))

-- one digit more, and no more digits
pub front_next : (b : Bytes) {d : ℕ} {r : Bytes} (v : ℕ) → got d r ≡ digit_of b → value_from v (front b) ≡ value_from (v * 10 + d) (front r)
unfolding front value_from
front_next [] v e = never (sym e)
front_next (c ∷ b) {d} {r} v e = by-test (is_digit c)
    (λ t. let k = rw t at e in let p : d ≡ c - 48 = cc in let q : r ≡ b = cc in rw (t, p, q) refl)
    (λ t. let k = rw t at e in never (sym k))

pub after_next : (b : Bytes) {d : ℕ} {r : Bytes} → got d r ≡ digit_of b → after b ≡ after r
unfolding after
after_next b e = let k = digit_there b e in rw (k.is, k.digit) refl

pub held_next : (most v : ℕ) (b : Bytes) {d : ℕ} {r : Bytes} → got d r ≡ digit_of b
    → min most (value_from v (front b)) ≡ min most (value_from (held_digit most v d) (front r))
held_next most v b {d} {r} e = ap (min most) (front_next b v e) ∙ sym (value-held most (v * 10 + d) (front r))

pub front_end : (b : Bytes) → broken ≡ digit_of b → front b ≡ []
unfolding front
front_end [] e = refl
front_end (c ∷ b) e = by-test (is_digit c) (λ t. never (rw t at e)) (λ t. rw t)

pub after_end : (b : Bytes) → broken ≡ digit_of b → after b ≡ b
unfolding after
after_end [] e = refl
after_end (c ∷ b) e = by-test (is_digit c) (λ t. never (rw t at e)) (λ t. rw t)

-- a number is digits without a leading zero
pub number_none : (b : Bytes) → broken ≡ digit_of b → numeral_of b ≡ broken
unfolding numeral_of plain
number_none b e = rw (front_end b e)

zero_then_digit : (c d : ℕ) (s : Bytes) → is_digit c ≡ true → is_digit d ≡ true → c ≡ 48 → numeral_of (c ∷ d ∷ s) ≡ broken
unfolding numeral_of front plain
zero_then_digit c d s p q e = rw (p, q, eq-eqb c 48 e) refl

pub number_zero : (b r : Bytes) (d : ℕ) (o : Option (ℕ × Bor Bytes)) → got d r ≡ digit_of b → d ≡ 0 → read_of o ≡ digit_of r → is_some o ≡ true → numeral_of b ≡ broken
number_zero b r d None e z f h = cc
number_zero b r d (Some x) e z f h =
    let k = digit_there b e in
    let l = digit_there r f in
    let m = is_digit_lem k.byte k.digit in
    ap numeral_of (k.is ∙ ap (◌∷◌ k.byte) l.is) ∙ zero_then_digit k.byte l.byte x.1.now k.digit l.digit (omega (arith, k.worth))

pub no_digit : (r : Bytes) (o : Option (ℕ × Bor Bytes)) → read_of o ≡ digit_of r → is_some o ≡ false → broken ≡ digit_of r
no_digit r None f h = f
no_digit r (Some x) f h = cc

number_from : (c : ℕ) (b : Bytes) → is_digit c ≡ true → (c ≡ 48 → broken ≡ digit_of b) → numeral_of (c ∷ b) ≡ got (value_from (c - 48) (front b)) (after b)
unfolding numeral_of front after value_from plain
number_from c b t z = rw t (go (front b) refl)
  where
    same : (ds : Bytes) → got (value_from (0 * 10 + (c - 48)) ds) (after b) ≡ got (value_from (c - 48) ds) (after b)
    same ds = ap (λ (v : ℕ). got (value_from v ds) (after b)) (omega arith)

    go : (ds : Bytes) → front b ≡ ds → cond (plain (c ∷ ds)) (got (value_from (0 * 10 + (c - 48)) ds) (after b)) broken ≡ got (value_from (c - 48) ds) (after b)
    go [] f = same []
    go (x ∷ ds) f = by-test (eqb c 48)
        (λ e. let q = front_end b (z (eqb-true c 48 e)) in cc)
        (λ e. rw e (same (x ∷ ds)))

pub number_is : (b : Bytes) (d : ℕ) (r : Bytes) → got d r ≡ digit_of b → (d ≡ 0 → broken ≡ digit_of r)
    → numeral_of b ≡ got (value_from d (front r)) (after r)
number_is b d r e z =
    let k = digit_there b e in
    let w : k.byte ≡ 48 → d ≡ 0 = λ h. omega (arith, k.worth) in
    ap numeral_of k.is ∙ number_from k.byte r k.digit (λ h. z (w h)) ∙ ap (λ (v : ℕ). got (value_from v (front r)) (after r)) (sym k.worth)
