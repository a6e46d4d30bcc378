-- A list is read member by member, and gathered on the way.
use Prim.Native.Nat.{ℕ, zero, suc, ◌≤◌, ◌<◌}
use native.Mathlib.Omega.{arith}
use mathlib.Core.Path.{◌≡◌, refl, sym, ap, ◌∙◌}
use mathlib.Core.List.{List, [], ◌∷◌, ◌++◌, map, append-nil, append_assoc}
use lib.ListN.{length}
use Rattle.std.specs.Prelude.{Option, Some}
use Rattle.std.specs.Borrow.{Bor}
use Rattle.text_scan.specs.Scan.{read_of}
use Rattle.pattern_text.specs.Bytes.{Bytes, Reading, got, broken}
use Rattle.pattern_text.specs.Form.{Form, giving, go_on, read_many, many}

-- as many members as stand there
abbrev pub all_read : {A : Type 0} → (Bytes → Reading A) → Bytes → Reading (List A)
all_read f b = read_many f (length b) b

-- all of a list's members, added one after the other
abbrev pub folded : {A S : Type 0} → (S → A → S) → S → List A → S
folded add s [] = s
folded add s (a ∷ l) = folded add (add s a) l

abbrev pub gather : {A S : Type 0} → (S → A → S) → S → Reading (List A) → Reading S
gather add s (got l r) = got (folded add s l) r
gather add s broken = broken

module _ {A : Type 0} (f : Bytes → Reading A) (less : (b : Bytes) (a : A) (r : Bytes) → f b ≡ got a r → length r < length b) where
  -- the count only has to be large enough
  fuel : (n m : ℕ) (b : Bytes) → length b ≤ n → length b ≤ m → read_many f n b ≡ read_many f m b
  unfolding read_many
  fuel zero zero b p q = refl
  fuel zero (suc m) b p q = go (f b) refl
    where
      go : (x : Reading A) → f b ≡ x → got [] b ≡ go_on x b (λ r. read_many f m r)
      go (got a r) e = absurd (omega (arith, less b a r e))
      go broken e = refl
  fuel (suc n) zero b p q = go (f b) refl
    where
      go : (x : Reading A) → f b ≡ x → go_on x b (λ r. read_many f n r) ≡ got [] b
      go (got a r) e = absurd (omega (arith, less b a r e))
      go broken e = refl
  fuel (suc n) (suc m) b p q = go (λ r. fuel n m r) (f b) refl
    where
      go : ((r : Bytes) → length r ≤ n → length r ≤ m → read_many f n r ≡ read_many f m r) → (x : Reading A) → f b ≡ x → go_on x b (λ r. read_many f n r) ≡ go_on x b (λ r. read_many f m r)
      go h (got a r) e = let l = less b a r e in ap (giving (◌∷◌ a)) (h r (omega arith) (omega arith))
      go h broken e = refl

  never_broken : (n : ℕ) (b : Bytes) → read_many f n b ≡ broken → ⊥
  unfolding read_many
  never_broken zero b e = let z : ◌≡◌ {A = ℕ} 0 1 = cc in omega arith
  never_broken (suc n) b e = go (f b) (λ r. never_broken n r) e
    where
      on : (a : A) (x : Reading (List A)) → (x ≡ broken → ⊥) → giving (◌∷◌ a) x ≡ broken → ⊥
      on a (got l r) h p = let z : ◌≡◌ {A = ℕ} 0 1 = cc in omega arith
      on a broken h p = h refl

      go : (x : Reading A) → ((r : Bytes) → read_many f n r ≡ broken → ⊥) → go_on x b (λ r. read_many f n r) ≡ broken → ⊥
      go (got a r) h p = on a (read_many f n r) (h r) p
      go broken h p = let z : ◌≡◌ {A = ℕ} 0 1 = cc in omega arith

  pub many-end : (b : Bytes) → f b ≡ broken → all_read f b ≡ got [] b
  unfolding read_many
  many-end [] e = refl
  many-end (c ∷ b) e = rw e refl

  pub many_more : (b : Bytes) (a : A) (r : Bytes) → f b ≡ got a r → all_read f b ≡ giving (◌∷◌ a) (all_read f r)
  unfolding read_many
  many_more [] a r e = absurd (omega (arith, less [] a r e))
  many_more (c ∷ b) a r e = let l = less (c ∷ b) a r e in rw e (ap (giving (◌∷◌ a)) (fuel (length b) (length r) r (omega arith) (omega arith)))

  -- ---- gathered by one function

  module _ {S : Type 0} (add : S → A → S) where
    pub gather-end : (s : S) (b : Bytes) → f b ≡ broken → gather add s (all_read f b) ≡ got s b
    gather-end s b e = rw (many-end b e) refl

    pub gather-more : (s : S) (b : Bytes) (a : A) (r : Bytes) → f b ≡ got a r → gather add s (all_read f b) ≡ gather add (add s a) (all_read f r)
    gather-more s b a r e = rw (many_more b a r e) (go (all_read f r))
      where
        go : (x : Reading (List A)) → gather add s (giving (◌∷◌ a) x) ≡ gather add (add s a) x
        go (got l q) = refl
        go broken = refl

    -- the same of an answer
    pub next_part : (start s : S) (b t : Bytes) (o : Option (A × Bor Bytes)) → read_of o ≡ f b → (x : A) (r : Bor Bytes) → o ≡ Some (x, r) → {more : S}
        → gather add start (all_read f t) ≡ gather add s (all_read f b) → more ≡ add s x → gather add start (all_read f t) ≡ gather add more (all_read f r.now)
    next_part start s b t o e x r p k h = k ∙ gather-more s b x r.now (sym e ∙ ap read_of p) ∙ ap (λ (y : S). gather add y (all_read f r.now)) (sym h)

-- reading a list never fails
module _ {A : Type 0} (f : Form A) (less : (b : Bytes) (a : A) (r : Bytes) → f.read b ≡ got a r → length r < length b) where
  pub many_got : {X : Type 0} (b : Bytes) → ((l : List A) (r : Bytes) → (many f).read b ≡ got l r → X) → X
  unfolding many
  many_got {X = X} b k = some (length b) b k
    where
      some : (n : ℕ) (b : Bytes) → ((l : List A) (r : Bytes) → read_many f.read n b ≡ got l r → X) → X
      some n b k = go (read_many f.read n b) refl
        where
          go : (x : Reading (List A)) → read_many f.read n b ≡ x → X
          go (got l r) e = k l r e
          go broken e = absurd (never_broken f.read less n b e)

-- adding all of a list to what some members give is what all of them give
pub all_of : {A S : Type 0} (add : S → A → S) (of : List A → S) → ((xs : List A) (x : A) → add (of xs) x ≡ of (xs ++ (x ∷ []))) → (xs ys : List A) → folded add (of xs) ys ≡ of (xs ++ ys)
all_of add of one xs [] = ap of (sym (append-nil xs))
all_of add of one xs (y ∷ ys) = ap (λ s. folded add s ys) (one xs y) ∙ all_of add of one (xs ++ (y ∷ [])) ys ∙ ap of (append_assoc xs (y ∷ []) ys)

-- what was gathered of all members is what they give
pub gather_is : {A S : Type 0} (add : S → A → S) (of : List A → S) → ((xs : List A) (x : A) → add (of xs) x ≡ of (xs ++ (x ∷ []))) → (x : Reading (List A)) → gather add (of []) x ≡ giving of x
gather_is add of one (got l r) = ap (λ s. got s r) (all_of add of one [] l)
gather_is add of one broken = refl

-- members that stand for others
pub read_giving : {A B : Type 0} (h : A → B) (f : Bytes → Reading A) (n : ℕ) (b : Bytes) → read_many (λ c. giving h (f c)) n b ≡ giving (map h) (read_many f n b)
unfolding read_many
read_giving h f zero b = refl
read_giving h f (suc n) b = go (λ r. read_giving h f n r) (f b)
  where
    on : (a : _) (x : Reading (List _)) → giving (◌∷◌ (h a)) (giving (map h) x) ≡ giving (map h) (giving (◌∷◌ a) x)
    on a (got l r) = refl
    on a broken = refl

    go : ((r : Bytes) → read_many (λ c. giving h (f c)) n r ≡ giving (map h) (read_many f n r))
        → (x : Reading _) → go_on (giving h x) b (λ r. read_many (λ c. giving h (f c)) n r) ≡ giving (map h) (go_on x b (λ r. read_many f n r))
    go k (got a r) = rw (k r) (on a (read_many f n r))
    go k broken = refl
