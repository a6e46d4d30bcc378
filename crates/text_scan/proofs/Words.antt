-- A word that the library finds at the front of a text, and one that a definition strips.
use Rattle.std.proofs.Common.{◌≡◌, ℕ, ◌+◌, ◌≤◌, ◌<◌, Bool, true, false, nat_eq, [], ◌∷◌, length, take, drop, get_or, refl, sym}
use Rattle.std.specs.Prelude.{Option, Some, None, MatchOption}
use Rattle.std.specs.Borrow.{Bor}
use Rattle.std.specs.Cmp.Lexicographic.{pointwise}
use borrow.Author.Tests.{eqb-true, eqb-false, eq-eqb, ne_eqb}
use native.Mathlib.Numerals.{add-one}
use lib.ListN.{drop_of_length-le}
use lib.Seq.{drop-cons}
use Rattle.pattern_text.specs.Bytes.{Bytes, got, broken}
use Rattle.pattern_text.specs.Form.{strip}
use Rattle.pattern_text.proofs.Tools.{by-test}
use Rattle.text_scan.specs.Scan.{left_of}

-- whether a word stands at the front, as the library compares
abbrev pub stands : (w t : Bytes) → Bool
stands w t = pointwise nat_eq (take (length w) t) w

pub strip_there : (w t : Bytes) → stands w t ≡ true → strip w t ≡ got tt (drop (length w) t)
unfolding strip
strip_there [] t e = refl
strip_there (c ∷ w) [] e = cc
strip_there (c ∷ w) (d ∷ t) e = by-test (nat_eq d c)
    (λ k. rw (eq-eqb c d (let m : d ≡ c = eqb-true d c k in cc)) (strip_there w t (rw k at e)))
    (λ k. cc)

pub strip_absent : (w t : Bytes) → stands w t ≡ false → strip w t ≡ broken
unfolding strip
strip_absent [] t e = cc
strip_absent (c ∷ w) [] e = refl
strip_absent (c ∷ w) (d ∷ t) e = by-test (nat_eq d c)
    (λ k. rw (eq-eqb c d (let m : d ≡ c = eqb-true d c k in cc)) (strip_absent w t (rw k at e)))
    (λ k. rw (ne_eqb c d (λ p. eqb-false d c k (let m : d ≡ c = cc in m))))

pub word_is : (w t : Bytes) (o : Option (Bor Bytes))
    → MatchOption o (stands w t ≡ false) (λ x. (stands w t ≡ true) × (x.now ≡ drop (length w) t) × (length x.now + length w ≡ length t))
    → left_of o ≡ strip w t
word_is w t (Some x) e = rw (strip_there w t e.0, e.1)
word_is w t None e = rw (strip_absent w t e)

-- ---- a word's bytes one by one

-- the byte at a position, and the rest after it
pub drop-next : (t : Bytes) (n : ℕ) → n < length t → drop n t ≡ get_or t n 0 ∷ drop (n + 1) t
drop-next t n h = rw add-one (drop-cons t n 0 h)

pub strip-next : (w t : Bytes) (i n : ℕ) → i < length w → n < length t → get_or t n 0 ≡ get_or w i 0 → strip (drop i w) (drop n t) ≡ strip (drop (i + 1) w) (drop (n + 1) t)
unfolding strip
strip-next w t i n h k e = rw (drop-next w i h, drop-next t n k, eq-eqb (get_or w i 0) (get_or t n 0) (sym e))

pub strip-other : (w t : Bytes) (i n : ℕ) → i < length w → n < length t → (get_or t n 0 ≡ get_or w i 0 → ⊥) → strip (drop i w) (drop n t) ≡ broken
unfolding strip
strip-other w t i n h k e = rw (drop-next w i h, drop-next t n k, ne_eqb (get_or w i 0) (get_or t n 0) (λ p. e (sym p)))

pub strip-short : (w t : Bytes) (i n : ℕ) → i < length w → length t ≤ n → strip (drop i w) (drop n t) ≡ broken
unfolding strip
strip-short w t i n h k = rw (drop-next w i h, drop_of_length-le t {i = n} k)

pub strip-end : (w t : Bytes) (i n : ℕ) → length w ≤ i → strip (drop i w) (drop n t) ≡ got tt (drop n t)
unfolding strip
strip-end w t i n h = rw (drop_of_length-le w {i = i} h)
