-- Laws of lists that the kit lacks: the slots that a count names, one element more, lists taken side by side.
use Prim.Native.Nat.{ℕ, zero, suc, ◌+◌, ◌<◌, ◌≤◌, min}
use native.Mathlib.Nat.{zero-add}
use native.Mathlib.Numerals.{add-one}
use native.Mathlib.Omega.{arith}
use mathlib.Core.Path.{◌≡◌, refl, sym, ap, subst, ◌∙◌}
use mathlib.Core.List.{List, [], ◌∷◌, ◌++◌, flat_map, zip_with, append_assoc, append-nil}
use mathlib.Core.Bool.{Bool, true, false}
use mathlib.Core.Logic.{◌≢◌}
use borrow.Author.Tests.{eqb-true, eqb-false}
use lib.Dec.{eqb}
use denote.Param.Members.{Mut, Called}
use Rattle.std.specs.Array.{IsFromFnResultFrom}
use lib.ListN.{length, take, get_or, set, drop_of_length-le}
use lib.Seq.{take-suc, take-nil, take_all, paste, paste-suc}

module _ {A : Type 0} where
  -- a count past the end names every slot
  pub take-in_use : (n size : ℕ) (xs : List A) → length xs ≡ size → take (min n size) xs ≡ take n xs
  take-in_use zero size xs e = rw (zero-min size)
    where
      zero-min : (size : ℕ) → min 0 size ≡ 0
      zero-min size = omega arith
  take-in_use (suc n) size [] e = take-nil (min (suc n) size)
  take-in_use (suc n) size (x ∷ xs) e =
      let m : min (suc n) size ≡ suc (min n (length xs)) = omega arith in
      rw m (ap (◌∷◌ x) (take-in_use n (length xs) xs refl))

  -- one element more, as a loop counts
  pub take_more : (i : ℕ) (xs : List A) (d : A) → i < length xs → take (i + 1) xs ≡ take i xs ++ (get_or xs i d ∷ [])
  take_more i xs d h = rw (add-one i, take-suc xs i d)

  -- a loop that stores s, element by element, over d
  pub stored_more : (d s : List A) (k : ℕ) (z : A) → k < length d → k < length s → set (paste d 0 s k) k (get_or s k z) ≡ paste d 0 s (k + 1)
  stored_more d s k z h l =
      subst (λ (j : ℕ). set (paste d 0 s k) j (get_or s k z) ≡ paste d 0 s (k + 1)) (zero-add k)
      (paste-suc d 0 s k z (omega arith) l ∙ ap (paste d 0 s) (sym (add-one k)))

  pub stored-all : (d s : List A) (n : ℕ) → length d ≡ n → length s ≡ n → paste d 0 s n ≡ s
  stored-all d s n e g = rw (take_all n s (omega arith), drop_of_length-le d {i = 0 + n} (omega arith)) (append-nil s)

module _ {A B : Type 0} (f : A → List B) where
  pub flat_map-append : (xs ys : List A) → flat_map f (xs ++ ys) ≡ flat_map f xs ++ flat_map f ys
  unfolding flat_map
  flat_map-append [] ys = refl
  flat_map-append (x ∷ xs) ys = rw (flat_map-append xs ys) (sym (append_assoc (f x) (flat_map f xs) (flat_map f ys)))

  pub flat_map_snoc : (xs : List A) (x : A) → flat_map f (xs ++ (x ∷ [])) ≡ flat_map f xs ++ f x
  unfolding flat_map
  flat_map_snoc xs x = flat_map-append xs (x ∷ []) ∙ rw (append-nil (f x))

module _ {A B C : Type 0} (f : A → B → C) where
  pub length-zip : (xs : List A) (ys : List B) → length xs ≡ length ys → length (zip_with f xs ys) ≡ length ys
  unfolding zip_with
  length-zip [] [] e = refl
  length-zip [] (y ∷ ys) e = absurd (omega arith)
  length-zip (x ∷ xs) [] e = absurd (omega arith)
  length-zip (x ∷ xs) (y ∷ ys) e = let k : length xs ≡ length ys = omega arith in ap suc (length-zip xs ys k)

  pub zip-at : (xs : List A) (ys : List B) (i : ℕ) (a : A) (b : B) (c : C) → i < length xs → i < length ys
      → get_or (zip_with f xs ys) i c ≡ f (get_or xs i a) (get_or ys i b)
  unfolding zip_with
  zip-at [] ys i a b c h k = absurd (omega arith)
  zip-at (x ∷ xs) [] i a b c h k = absurd (omega arith)
  zip-at (x ∷ xs) (y ∷ ys) zero a b c h k = refl
  zip-at (x ∷ xs) (y ∷ ys) (suc i) a b c h k = zip-at xs ys i a b c (omega arith) (omega arith)

-- what `array::from_fn` gives, place by place, where no call changes the closure
module _ {F B : Type 0} (g : Mut F (ℕ × Unit {0}) B) (h : ℕ → B) (f : F)
    (step : (i : ℕ) (b : B) (q : F) → Called g f (i, tt) b q → (q ≡ f) × (b ≡ h i)) where
  pub made-at : (ys : List B) (n i k : ℕ) (d : B) → IsFromFnResultFrom g f ys i n → i ≤ k → k < i + n → get_or ys k d ≡ h k
  made-at ys zero i k d r l m = absurd (omega arith)
  made-at ys (suc n) i k d r l m =
      let called : (r.0 ≡ f) × (r.1 ≡ h i) = step i r.1 r.0 r.3 in
      by ys i k d l (r.2.1 d ∙ called.1) (eqb i k) refl
      (λ low. made-at ys n (i + 1) k d (subst (λ (q : F). IsFromFnResultFrom g q ys (i + 1) n) called.0 r.4) low (omega arith))
    where
      by : (ys : List B) (i k : ℕ) (d : B) → i ≤ k → get_or ys i d ≡ h i → (t : Bool) → eqb i k ≡ t → (i + 1 ≤ k → get_or ys k d ≡ h k) → get_or ys k d ≡ h k
      by ys i k d l here true e later = subst (λ (j : ℕ). get_or ys j d ≡ h j) (eqb-true i k e) here
      by ys i k d l here false e later = let other : i ≢ k = eqb-false i k e in later (omega arith)
