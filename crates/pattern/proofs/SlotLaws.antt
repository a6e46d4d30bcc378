-- Tests of all of a list, and arrays of which no slot is in use.
use Prim.Native.Nat.{ℕ}
use mathlib.Core.Path.{◌≡◌, refl, sym, ap, ap₂, subst, ◌∙◌}
use mathlib.Core.List.{List, [], ◌∷◌, ◌++◌, map}
use mathlib.Core.Bool.{Bool, true, false, ◌&&◌, and-true, and-false}
use borrow.Author.Tests.{eqb-true}
use lib.Dec.{eqb}
use Rattle.std.proofs.lemmas.List.Folds.{list_all-append, list_all-map}
use Rattle.pattern.specs.Slots.{all, slots}

pub all-mapped : {A B : Type 0} (p : B → Bool) (f : A → B) (xs : List A) → all p (map f xs) ≡ all (λ x. p (f x)) xs
all-mapped p f xs = list_all-map p f xs

module _ {A : Type 0} where
  pub all_same : (p q : A → Bool) → ((a : A) → p a ≡ q a) → (xs : List A) → all p xs ≡ all q xs
  all_same p q h [] = refl
  all_same p q h (x ∷ xs) = ap₂ ◌&&◌ (h x) (all_same p q h xs)

  pub all_append : (f : A → Bool) (xs ys : List A) → all f (xs ++ ys) ≡ all f xs && all f ys
  all_append f xs ys = list_all-append f xs ys

  pub all_snoc : (f : A → Bool) (xs : List A) (x : A) → all f (xs ++ (x ∷ [])) ≡ all f xs && f x
  all_snoc f xs x = all_append f xs (x ∷ []) ∙ ap (◌&&◌ (all f xs)) (and-true (f x))

-- where no slot is in use, what one in use would have to be does not matter
pub none_used : {A : Type 0} (used other unused : A → Bool) (size n : ℕ) (xs : List A) (b : Bool) → b && eqb n 0 && slots used unused size n xs ≡ b && eqb n 0 && slots other unused size 0 xs
unfolding slots
none_used {A} used other unused size n xs b = by (eqb n 0) refl
  where
    by : (t : Bool) → eqb n 0 ≡ t → b && t && slots used unused size n xs ≡ b && t && slots other unused size 0 xs
    by true e = ap (◌&&◌ (b && true)) (subst (λ (m : ℕ). slots used unused size m xs ≡ slots other unused size 0 xs) (sym (eqb-true n 0 e)) refl)
    by false e = rw (and-false b)
