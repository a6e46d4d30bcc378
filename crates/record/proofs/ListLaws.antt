-- Laws of lists that the kit and `pattern` lack: tests of all of a list's elements.
use Prim.Native.Nat.{ℕ, zero, suc, ◌<◌}
use native.Mathlib.Omega.{arith}
use mathlib.Core.Path.{◌≡◌, refl}
use mathlib.Core.List.{List, [], ◌∷◌}
use mathlib.Core.Bool.{Bool, true}
use lib.ListN.{length, take, drop, get_or}
use Rattle.pattern.specs.Slots.{all}
use Rattle.pattern.proofs.SoundLaws.{both}

module _ {A : Type 0} where
  pub all_take : (f : A → Bool) (n : ℕ) (xs : List A) → all f xs ≡ true → all f (take n xs) ≡ true
  all_take f zero xs e = refl
  all_take f (suc n) [] e = refl
  all_take f (suc n) (x ∷ xs) e = let h = both (f x) (all f xs) e in rw (h.0, all_take f n xs h.1)

  pub all_drop : (f : A → Bool) (n : ℕ) (xs : List A) → all f xs ≡ true → all f (drop n xs) ≡ true
  all_drop f zero xs e = e
  all_drop f (suc n) [] e = refl
  all_drop f (suc n) (x ∷ xs) e = all_drop f n xs (both (f x) (all f xs) e).1

  -- what all of a list pass, each in it passes
  pub all-at : (f : A → Bool) (xs : List A) (i : ℕ) (d : A) → all f xs ≡ true → i < length xs → f (get_or xs i d) ≡ true
  all-at f [] i d e h = absurd (omega arith)
  all-at f (x ∷ xs) zero d e h = (both (f x) (all f xs) e).0
  all-at f (x ∷ xs) (suc i) d e h = all-at f xs i d (both (f x) (all f xs) e).1 (omega arith)
