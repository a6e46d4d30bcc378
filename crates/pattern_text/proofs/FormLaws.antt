-- Forms are read as they are written.
use Prim.Native.Nat.{ℕ, zero, suc, ◌≤◌, ◌<◌}
use mathlib.Core.Path.{◌≡◌, refl, sym, ap, ap₂, ◌∙◌}
use Prim.Native.String.{String}
use mathlib.Core.List.{List, [], ◌∷◌, ◌++◌, append_assoc}
use mathlib.Core.Logic.{◌⊎◌, inl, inr}
use mathlib.Core.Bool.{true, false}
use native.Mathlib.Omega.{arith}
use lib.Dec.{eqb}
use lib.ListN.{length, length-append}
use lib.IntN.{ℤ, pos, negsuc}
use borrow.Author.Tests.{eqb-true, eq-eqb, ne_eqb}
use Rattle.pattern.specs.Slots.{all}
use Rattle.pattern_text.specs.Bytes.{Bytes, no_feed, Flat, bytes, Reading, got, broken}
use Rattle.pattern_text.specs.Numeral.{decimal, is_digit, starts_digit, numeral_of}
use Rattle.pattern_text.specs.Form.{Form, and_then, giving, or_else, strip, ◌▸◌, ◌◂◌, ◌⨾◌, first_of, one_of, write_either, either, write_many, go_on, read_many, many, mapped, number, write_ℤ, minus, integer}
use Rattle.pattern_text.proofs.Tools.{never, both, all_append, by-test}
use Rattle.pattern_text.proofs.NumeralLaws.{digits_of, is_digit_lem, numeral, no_numeral}

-- ---- a form is exact if reading finds what was written, before bytes that may follow, and nothing else; and if it
-- writes no line feed

pub record Exact {A : Type 0} (f : Form A) (Follow : Bytes → Type 0) : Type 0 where
  pub sound : (b : Bytes) (a : A) (r : Bytes) → f.read b ≡ got a r → b ≡ f.write a ++ r
  pub complete : (a : A) (r : Bytes) → Follow r → f.read (f.write a ++ r) ≡ got a r
  pub flat : (a : A) → Flat (f.write a)

-- the same of a form that may write line feeds
pub record Faithful {A : Type 0} (f : Form A) (Follow : Bytes → Type 0) : Type 0 where
  pub sound : (b : Bytes) (a : A) (r : Bytes) → f.read b ≡ got a r → b ≡ f.write a ++ r
  pub complete : (a : A) (r : Bytes) → Follow r → f.read (f.write a ++ r) ≡ got a r

abbrev pub faithful : {A : Type 0} {f : Form A} {F : Bytes → Type 0} → Exact f F → Faithful f F
faithful x = record { sound = x.sound; complete = x.complete }

abbrev pub Any : Bytes → Type 0
Any r = Unit

abbrev pub NoDigit : Bytes → Type 0
NoDigit r = starts_digit r ≡ false

pub inv : {A B X : Type 0} (x : Reading A) (k : A → Bytes → Reading B) (b : B) (s : Bytes) → and_then x k ≡ got b s
    → ((a : A) (r : Bytes) → x ≡ got a r → k a r ≡ got b s → X) → X
inv (got a r) k b s e f = f a r refl e
inv broken k b s e f = never e

pub giving_inv : {A B X : Type 0} (g : A → B) (x : Reading A) (b : B) (s : Bytes) → giving g x ≡ got b s → ((a : A) → x ≡ got a s → g a ≡ b → X) → X
giving_inv g (got a r) b s e f = f a (cc) (cc)
giving_inv g broken b s e f = never e

pub or_inv : {A X : Type 0} (x y : Reading A) (b : A) (s : Bytes) → or_else x y ≡ got b s → (x ≡ got b s → X) → (y ≡ got b s → X) → X
or_inv (got a r) y b s e f g = f e
or_inv broken y b s e f g = g e

pub strip-sound : (w b r : Bytes) (u : Unit) → strip w b ≡ got u r → b ≡ w ++ r
unfolding strip
strip-sound [] b r u e = cc
strip-sound (c ∷ w) [] r u e = never e
strip-sound (c ∷ w) (d ∷ b) r u e = by-test (eqb c d)
    (λ t. ap₂ ◌∷◌ (sym (eqb-true c d t)) (strip-sound w b r u (rw t at e)))
    (λ t. never (rw t at e))

pub strip-complete : (w r : Bytes) → strip w (w ++ r) ≡ got tt r
unfolding strip
strip-complete [] r = refl
strip-complete (c ∷ w) r = rw (eq-eqb c c refl) (strip-complete w r)

pub ▸-exact : {A : Type 0} {f : Form A} {F : Bytes → Type 0} (w : String) → Flat (bytes w) → Exact f F → Exact (w ▸ f) F
unfolding ◌▸◌
▸-exact {f = f} w flat x = record {
  sound = λ b a r e. inv (strip (bytes w) b) (λ _ s. f.read s) a r e (λ u s p q.
      strip-sound (bytes w) b s u p ∙ rw (x.sound s a r q) (sym (append_assoc (bytes w) (f.write a) r)));
  complete = λ a r h. rw (append_assoc (bytes w) (f.write a) r, strip-complete (bytes w) (f.write a ++ r)) (x.complete a r h);
  flat = λ a. all_append no_feed (bytes w) (f.write a) flat (x.flat a);
}

module _ {A : Type 0} {f : Form A} {F : Bytes → Type 0} (w : String) (x : Exact f F) where
  ◂-sound : (b : Bytes) (a : A) (r : Bytes) → (f ◂ w).read b ≡ got a r → b ≡ (f ◂ w).write a ++ r
  unfolding ◌◂◌
  ◂-sound b a r e = inv (f.read b) (λ a r. giving (λ _. a) (strip (bytes w) r)) a r e (λ c s p q. giving_inv (λ _. c) (strip (bytes w) s) a r q (λ u t v.
      x.sound b c s p ∙ rw (strip-sound (bytes w) s r u t, v) (sym (append_assoc (f.write a) (bytes w) r))))

  pub ◂-faithful : ((r : Bytes) → F (bytes w ++ r)) → Faithful (f ◂ w) Any
  unfolding ◌◂◌
  ◂-faithful k = record {
    sound = ◂-sound;
    complete = λ a r _. rw (append_assoc (f.write a) (bytes w) r, x.complete a (bytes w ++ r) (k r), strip-complete (bytes w) r) refl;
  }

  pub ◂-exact : Flat (bytes w) → ((r : Bytes) → F (bytes w ++ r)) → Exact (f ◂ w) Any
  unfolding ◌◂◌
  ◂-exact flat k = record {
    sound = ◂-sound;
    complete = (◂-faithful k).complete;
    flat = λ a. all_append no_feed (f.write a) (bytes w) (x.flat a) flat;
  }

pub ⨾-exact : {A B : Type 0} {f : Form A} {g : Form B} {F G : Bytes → Type 0} → Exact f F → Exact g G → ((b : B) (r : Bytes) → G r → F (g.write b ++ r)) → Exact (f ⨾ g) G
unfolding ◌⨾◌
⨾-exact {f = f} {g = g} x y k = record {
  sound = λ b a r e. inv (f.read b) (λ a r. giving (λ c. (a, c)) (g.read r)) a r e (λ c s p q. giving_inv (λ d. (c, d)) (g.read s) a r q (λ d t v.
      x.sound b c s p ∙ rw (y.sound s d r t, ← v) (sym (append_assoc (f.write c) (g.write d) r))));
  complete = λ a r h. rw (append_assoc (f.write a.0) (g.write a.1) r, x.complete a.0 (g.write a.1 ++ r) (k a.1 r h), y.complete a.1 r h) refl;
  flat = λ a. all_append no_feed (f.write a.0) (g.write a.1) (x.flat a.0) (y.flat a.1);
}

pub mapped_exact : {A B : Type 0} {f : Form A} {F : Bytes → Type 0} (to : A → B) (from : B → A) → Exact f F → ((a : A) → from (to a) ≡ a) → ((b : B) → to (from b) ≡ b) → Exact (mapped to from f) F
unfolding mapped
mapped_exact {f = f} to from x p q = record {
  sound = λ b c r e. giving_inv to (f.read b) c r e (λ a t v. x.sound b a r t ∙ rw (← v) (ap (λ (d : _). f.write d ++ r) (sym (p a))));
  complete = λ c r h. rw (x.complete (from c) r h, q c);
  flat = λ c. x.flat (from c);
}

-- of words, each of which is read where it was written
first-sound : {A : Type 0} (word : A → String) (l : List A) (b : Bytes) (a : A) (r : Bytes) → first_of word l b ≡ got a r → b ≡ bytes (word a) ++ r
unfolding first_of
first-sound word [] b a r e = never e
first-sound word (c ∷ l) b a r e = or_inv (giving (λ _. c) (strip (bytes (word c)) b)) (first_of word l b) a r e
    (λ d. giving_inv (λ _. c) (strip (bytes (word c)) b) a r d (λ u t v. strip-sound (bytes (word c)) b r u t ∙ rw v))
    (λ d. first-sound word l b a r d)

pub one_of_exact : {A : Type 0} (word : A → String) (l : List A) → ((a : A) (r : Bytes) → first_of word l (bytes (word a) ++ r) ≡ got a r) → ((a : A) → Flat (bytes (word a))) → Exact (one_of word l) Any
unfolding one_of
one_of_exact word l k flat = record { sound = first-sound word l; complete = λ a r _. k a r; flat = flat }

-- of two forms, the first of which reads nothing that the other wrote
pub either_exact : {A B : Type 0} {f : Form A} {g : Form B} {F : Bytes → Type 0} → Exact f F → Exact g F
    → ((b : B) (r : Bytes) → f.read (g.write b ++ r) ≡ broken) → Exact (either f g) F
unfolding either
either_exact {A = A} {B = B} {f = f} {g = g} {F = F} x y apart = record {
  sound = λ b a r e. or_inv (giving inl (f.read b)) (giving inr (g.read b)) a r e
      (λ d. giving_inv inl (f.read b) a r d (λ c t v. x.sound b c r t ∙ rw (← v)))
      (λ d. giving_inv inr (g.read b) a r d (λ c t v. y.sound b c r t ∙ rw (← v)));
  complete = complete;
  flat = flat;
}
  where
    complete : (a : A ⊎ B) (r : Bytes) → F r → or_else (giving inl (f.read (write_either f g a ++ r))) (giving inr (g.read (write_either f g a ++ r))) ≡ got a r
    complete (inl a) r h = rw (x.complete a r h)
    complete (inr b) r h = rw (apart b r, y.complete b r h)

    flat : (a : A ⊎ B) → Flat (write_either f g a)
    flat (inl a) = x.flat a
    flat (inr b) = y.flat b

module _ {A : Type 0} {f : Form A} {F : Bytes → Type 0} (x : Faithful f F) where
  ended : (b : Bytes) (l : List A) (r : Bytes) → got [] b ≡ got l r → b ≡ write_many f.write l ++ r
  unfolding write_many
  ended b l r e = let p : [] ≡ l = cc in let q : b ≡ r = cc in rw (← p) q

  many-sound : (n : ℕ) (b : Bytes) (l : List A) (r : Bytes) → read_many f.read n b ≡ got l r → b ≡ write_many f.write l ++ r
  unfolding read_many write_many
  many-sound zero b l r e = ended b l r e
  many-sound (suc n) b l r e = go (many-sound n) (f.read b) refl e
    where
      go : ((b : Bytes) (l : List A) (r : Bytes) → read_many f.read n b ≡ got l r → b ≡ write_many f.write l ++ r)
          → (o : Reading A) → f.read b ≡ o → go_on o b (λ s. read_many f.read n s) ≡ got l r → b ≡ write_many f.write l ++ r
      go ih (got a s) p e = giving_inv (◌∷◌ a) (read_many f.read n s) l r e (λ m t v.
          x.sound b a s p ∙ rw (ih s m r t, ← v) (sym (append_assoc (f.write a) (write_many f.write m) r)))
      go ih broken p e = ended b l r e

  -- what may follow: no further one
  abbrev pub Last : Bytes → Type 0
  Last r = F r × (f.read r ≡ broken)

  module _ (starts : (a : A) (r : Bytes) → F (f.write a ++ r)) where
    follows : (l : List A) (r : Bytes) → Last r → F (write_many f.write l ++ r)
    unfolding write_many
    follows [] r h = h.0
    follows (a ∷ l) r h = rw (append_assoc (f.write a) (write_many f.write l) r) (starts a (write_many f.write l ++ r))

    many-complete : (l : List A) (n : ℕ) (r : Bytes) → length l ≤ n → Last r → read_many f.read n (write_many f.write l ++ r) ≡ got l r
    unfolding read_many write_many
    many-complete [] zero r k h = refl
    many-complete [] (suc n) r k h = rw h.1
    many-complete (a ∷ l) zero r k h = absurd (omega arith)
    many-complete (a ∷ l) (suc n) r k h =
        rw (append_assoc (f.write a) (write_many f.write l) r, x.complete a (write_many f.write l ++ r) (follows l r h), many-complete l n r (omega arith) h) refl

    module _ (some_byte : (a : A) → 0 < length (f.write a)) where
      long : (l : List A) → length l ≤ length (write_many f.write l)
      unfolding write_many
      long [] = omega arith
      long (a ∷ l) = rw (length-append (f.write a) (write_many f.write l)) (omega (arith, some_byte a, long l))

      pub many-faithful : Faithful (many f) Last
      unfolding many
      many-faithful = record {
        sound = λ b l r e. many-sound (length b) b l r e;
        complete = λ l r h. many-complete l (length (write_many f.write l ++ r)) r (rw (length-append (write_many f.write l) r) (omega (arith, long l))) h;
      }

module _ {A : Type 0} {f : Form A} {F : Bytes → Type 0} (x : Exact f F) where
  many-flat : (l : List A) → Flat (write_many f.write l)
  unfolding write_many
  many-flat [] = refl
  many-flat (a ∷ l) = all_append no_feed (f.write a) (write_many f.write l) (x.flat a) (many-flat l)

  pub many_exact : ((a : A) (r : Bytes) → F (f.write a ++ r)) → ((a : A) → 0 < length (f.write a)) → Exact (many f) (Last (faithful x))
  unfolding many
  many_exact starts some_byte =
      let y = many-faithful (faithful x) starts some_byte in
      record { sound = y.sound; complete = y.complete; flat = many-flat }

digits-flat : (b : Bytes) → all is_digit b ≡ true → Flat b
digits-flat [] h = refl
digits-flat (c ∷ b) h =
    let k = both (is_digit c) (all is_digit b) h in
    let l = is_digit_lem c k.0 in
    rw (ne_eqb c 10 (λ e. omega arith)) (digits-flat b k.1)

number-flat : (n : ℕ) → Flat (decimal n)
number-flat n = digits-flat (decimal n) (digits_of n)

pub number_exact : Exact number NoDigit
unfolding number
number_exact = record { sound = λ b n r e. ((numeral b n r).0 e).0; complete = λ n r h. (numeral (decimal n ++ r) n r).1 (refl, h); flat = number-flat }

below : (n : ℕ) (z : ℤ) (r b s : Bytes) → numeral_of b ≡ got n s → minus n s ≡ got z r → bytes "-" ++ b ≡ write_ℤ z ++ r
unfolding write_ℤ
below zero z r b s p e = never e
below (suc n) z r b s p e = let v : negsuc n ≡ z = cc in let w : s ≡ r = cc in rw (← v, ← w) (ap (◌∷◌ 45) ((numeral b (suc n) s).0 p).0)

integer-complete : (z : ℤ) (r : Bytes) → NoDigit r → integer.read (write_ℤ z ++ r) ≡ got z r
unfolding integer write_ℤ strip
integer-complete (pos n) r h = rw ((numeral (decimal n ++ r) n r).1 (refl, h)) refl
integer-complete (negsuc n) r h = rw (no_numeral 45 (decimal (suc n) ++ r) refl, (numeral (decimal (suc n) ++ r) (suc n) r).1 (refl, h)) refl

integer-flat : (z : ℤ) → Flat (write_ℤ z)
unfolding write_ℤ
integer-flat (pos n) = number-flat n
integer-flat (negsuc n) = number-flat (suc n)

pub integer_exact : Exact integer NoDigit
unfolding integer write_ℤ
integer_exact = record {
  sound = λ b z r e. or_inv (giving pos (numeral_of b)) (and_then (strip (bytes "-") b) (λ _ r. and_then (numeral_of r) minus)) z r e
      (λ d. giving_inv pos (numeral_of b) z r d (λ n t v. ((numeral b n r).0 t).0 ∙ rw (← v)))
      (λ d. inv (strip (bytes "-") b) (λ _ r. and_then (numeral_of r) minus) z r d (λ u s p q. inv (numeral_of s) minus z r q (λ n t v w.
      strip-sound (bytes "-") b s u p ∙ below n z r s t v w)));
  complete = integer-complete;
  flat = integer-flat;
}
