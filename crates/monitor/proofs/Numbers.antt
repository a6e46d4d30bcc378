-- The numbers below n, and what is made of each of them.
use Prim.Native.Nat.{ℕ, zero, suc, ◌+◌, ◌≤◌, ◌<◌}
use native.Mathlib.Omega.{arith}
use mathlib.Core.Path.{◌≡◌, refl, ap, subst, ◌∙◌}
use mathlib.Core.Logic.{⊎_elim}
use mathlib.Core.List.Memᴰ
use mathlib.Core.List.{List, ◌++◌, map, Memᴰ}
use lib.ListN.{length, drop, get_or, length-map, length-append, length-drop, get_or-append}
use lib.Seq.{drop_at}
use Rattle.monitor.specs.Cells.{from, up_to}

pub from-length : (i n : ℕ) → length (from i n) ≡ n
unfolding from
from-length i zero = refl
from-length i (suc n) = ap suc (from-length (suc i) n)

module _ {A : Type 0} (f : ℕ → A) where
  pub made_at : (i n k : ℕ) (d : A) → k < n → get_or (map f (from i n)) k d ≡ f (i + k)
  unfolding from
  made_at i zero k d h = absurd (omega arith)
  made_at i (suc n) zero d h = let e : i ≡ i + 0 = omega arith in ap f e
  made_at i (suc n) (suc k) d h = let e : suc i + k ≡ i + suc k = omega arith in made_at (suc i) n k d (omega arith) ∙ ap f e

  -- each of them is a member, and there are no others
  pub made_in : (i n k : ℕ) → k < n → Memᴰ (f (i + k)) (map f (from i n))
  unfolding from
  made_in i zero k h = absurd (omega arith)
  made_in i (suc n) zero h = let e : i + 0 ≡ i = omega arith in Memᴰ.head (ap f e)
  made_in i (suc n) (suc k) h = let e : suc i + k ≡ i + suc k = omega arith in Memᴰ.tail (subst (λ (m : ℕ). Memᴰ (f m) (map f (from (suc i) n))) e (made_in (suc i) n k (omega arith)))

  pub made-only : (i n : ℕ) (a : A) → Memᴰ a (map f (from i n)) → (k : ℕ) × (k < n) × (a ≡ f (i + k))
  unfolding from
  made-only i zero a m = absurd (Memᴰ.not-nil m)
  made-only i (suc n) a m =
      ⊎_elim
      (λ (e : a ≡ f i). (0, omega arith, e ∙ (let z : i ≡ i + 0 = omega arith in ap f z)))
      (λ k. let r = made-only (suc i) n a k in
      (suc r.0, (let h : r.0 < n = r.1 in omega arith), r.2 ∙ (let z : suc i + r.0 ≡ i + suc r.0 = omega arith in ap f z)))
      (Memᴰ.cases_cons m)

  -- in front of a list
  pub made-front : (n k : ℕ) (d : A) (l : List A) → k < n → get_or (map f (up_to n) ++ l) k d ≡ f k
  made-front n k d l h =
      let e : length (map f (up_to n)) ≡ n = length-map (up_to n) f ∙ from-length 0 n in
      let z : 0 + k ≡ k = omega arith in
      get_or-append (map f (up_to n)) l d k (omega arith) ∙ made_at 0 n k d h ∙ ap f z

  pub made-rest : (n : ℕ) (l : List A) → drop n (map f (up_to n) ++ l) ≡ l
  made-rest n l = drop_at (map f (up_to n)) l n (length-map (up_to n) f ∙ from-length 0 n)

  -- once the first n places of a list are made anew, it is as long as before
  pub told-length : (n : ℕ) (l : List A) → n ≤ length l → length (map f (up_to n) ++ drop n l) ≡ length l
  told-length n l h =
      let a = length-append (map f (up_to n)) (drop n l) in
      let e : length (map f (up_to n)) ≡ n = length-map (up_to n) f ∙ from-length 0 n in
      let d = length-drop n l in
      omega arith

-- what is made alike of each
pub made-same : {A : Type 0} (f g : ℕ → A) (i n : ℕ) → ((k : ℕ) → k < i + n → f k ≡ g k) → map f (from i n) ≡ map g (from i n)
unfolding from
made-same f g i zero h = refl
made-same f g i (suc n) h = rw (h i (omega arith), made-same f g (suc i) n (λ k l. h k (omega arith)))
