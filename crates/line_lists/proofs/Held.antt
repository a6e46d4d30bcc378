-- Holding a number changes no judgement of it; and lists whose first members are kept.
use Prim.Native.Nat.{ℕ, suc, ◌+◌, ◌≤◌, ◌<◌, min}
use native.Mathlib.Omega.{arith}
use mathlib.Core.Path.{◌≡◌, refl, sym, ap, ◌∙◌}
use mathlib.Core.List.{List, [], ◌∷◌, ◌++◌, map, map-append}
use mathlib.Core.Bool.{Bool, true, false, cond, ◌&&◌, and-true}
use lib.Dec.{leb, ltb}
use lib.ListN.{length, take, set, length-append, length-map}
use lib.Seq.{take_all, take-append-le}
use lib.IntN.{ℤ, pos, negsuc, nat_abs}
use borrow.Author.Tests.{leb-true, leb-false, le-leb, lt-leb, ltb-true, ltb-false, lt-ltb, le-ltb}
use Rattle.pattern.specs.Slots.{all}
use Rattle.pattern_text.specs.Text.{pad}
use Rattle.pattern_text.proofs.Tools.{by-test}
use Rattle.pattern_text.proofs.ForCode.{pad_snoc}
use Rattle.text_scan.specs.Scan.{cap, held_integer}

pub min-leb : (c k n : ℕ) → k < c → leb (min c n) k ≡ leb n k
min-leb c k n h = by-test (leb n k)
    (λ t. rw t (le-leb (min c n) k (omega (arith, leb-true n k t))))
    (λ t. rw t (lt-leb (min c n) k (omega (arith, leb-false n k t))))

pub min-ltb : (c k n : ℕ) → k ≤ c → ltb (min c n) k ≡ ltb n k
min-ltb c k n h = by-test (ltb n k)
    (λ t. rw t (lt-ltb (min c n) k (omega (arith, ltb-true n k t))))
    (λ t. rw t (le-ltb (min c n) k (omega (arith, ltb-false n k t))))

pub held-leb : (z : ℤ) → leb (nat_abs (held_integer z)) 1_000_000 ≡ leb (nat_abs z) 1_000_000
held-leb (pos n) = min-leb cap 1_000_000 n (omega arith)
held-leb (negsuc n) = by-test (leb (suc n) 1_000_000)
    (λ t. rw t (le-leb (suc (min 1_000_000 n)) 1_000_000 (omega (arith, leb-true (suc n) 1_000_000 t))))
    (λ t. rw t (lt-leb (suc (min 1_000_000 n)) 1_000_000 (omega (arith, leb-false (suc n) 1_000_000 t))))

-- a number in its range is held as itself
pub held-is : (z : ℤ) → leb (nat_abs z) 1_000_000 ≡ true → held_integer z ≡ z
held-is (pos n) h = ap pos (omega (arith, leb-true n 1_000_000 h))
held-is (negsuc n) h = ap negsuc (omega (arith, leb-true (suc n) 1_000_000 h))

-- ---- tests over a list with one member more

and_assoc : (a b c : Bool) → a && (b && c) ≡ (a && b) && c
and_assoc true b c = refl
and_assoc false b c = refl

all_snoc : {A : Type 0} (p : A → Bool) (xs : List A) (x : A) → all p (xs ++ (x ∷ [])) ≡ all p xs && p x
all_snoc p [] x = and-true (p x)
all_snoc p (y ∷ ys) x = ap (λ b. p y && b) (all_snoc p ys x) ∙ and_assoc (p y) (all p ys) (p x)

-- ---- the first members of a list, in an array of `size` slots, and their number, held at `most`

module _ {A : Type 0} (size most : ℕ) (room : size < most) (u : A) where
  kept : (xs : List A) (x : A) → cond (ltb (min most (length xs)) size) (set (pad size u (take size xs)) (min most (length xs)) x) (pad size u (take size xs)) ≡ pad size u (take size (xs ++ (x ∷ [])))
  kept xs x = by-test (ltb (length xs) size)
      (λ t.
      let h = ltb-true (length xs) size t in
      let m : min most (length xs) ≡ length xs = omega arith in
      let l : length (xs ++ (x ∷ [])) ≤ size = rw (length-append xs (x ∷ [])) (omega arith) in
      rw (m, t, take_all size xs (omega arith), take_all size (xs ++ (x ∷ [])) l) (sym (pad_snoc size u x xs h)))
      (λ t.
      let h = ltb-false (length xs) size t in
      rw (le-ltb (min most (length xs)) size (omega arith), take-append-le size xs (x ∷ []) h) refl)

  -- the same of what stands for each member
  pub kept_more : (h : A → A) (xs : List A) (x : A) → cond (ltb (min most (length xs)) size) (set (pad size u (take size (map h xs))) (min most (length xs)) (h x)) (pad size u (take size (map h xs))) ≡ pad size u (take size (map h (xs ++ (x ∷ []))))
  kept_more h xs x = rw (map-append h xs (x ∷ []), ← length-map xs h) (kept (map h xs) (h x))

pub all_more : {A : Type 0} (p : A → Bool) (h : A → A) → ((x : A) → p (h x) ≡ p x) → (xs : List A) (x : A) → all p xs && p (h x) ≡ all p (xs ++ (x ∷ []))
all_more p h same xs x = rw (all_snoc p xs x, same x) refl

pub counted : {A : Type 0} (most : ℕ) (xs : List A) (x : A) → min most (min most (length xs) + 1) ≡ min most (length (xs ++ (x ∷ [])))
counted most xs x = rw (length-append xs (x ∷ [])) (omega arith)
