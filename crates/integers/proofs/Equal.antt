-- `eq_z` and `same_numbers` test equality: what they say, and what makes them so.
use Prim.Native.Nat.{ℕ}
use mathlib.Core.Path.{◌≡◌, refl, ap}
use mathlib.Core.List.{List, [], ◌∷◌}
use mathlib.Core.Bool.{true, false}
use borrow.Author.Tests.{eqb-true, eq-eqb}
use lib.Dec.{T, eqb, eqb→eq, eqb_refl}
use lib.IntN.{ℤ, pos, negsuc}
use Rattle.integers.specs.Equal.{eq_z, same_numbers}
use Rattle.integers.proofs.Tests.{is_false, and_l, and_r, and_in}

pub eq_self : (a : ℤ) → eq_z a a ≡ true
eq_self (pos a) = eq-eqb a a refl
eq_self (negsuc a) = eq-eqb a a refl

pub eq-true : (a b : ℤ) → eq_z a b ≡ true → a ≡ b
eq-true (pos a) (pos b) e = ap pos (eqb-true a b e)
eq-true (pos a) (negsuc b) e = cc
eq-true (negsuc a) (pos b) e = cc
eq-true (negsuc a) (negsuc b) e = ap negsuc (eqb-true a b e)

pub ne_false : (a b : ℤ) → (a ≡ b → ⊥) → eq_z a b ≡ false
ne_false a b h = is_false (eq_z a b) (λ e. h (eq-true a b e))

-- ---- lists of numbers

pub numbers-eq : (ms ns : List ℕ) → T (same_numbers ms ns) → ms ≡ ns
numbers-eq [] [] h = refl
numbers-eq [] (n ∷ ns) h = absurd h
numbers-eq (m ∷ ms) [] h = absurd h
numbers-eq (m ∷ ms) (n ∷ ns) h =
    let e : m ≡ n = eqb→eq m n (and_l (eqb m n) (same_numbers ms ns) h) in
    let f : ms ≡ ns = numbers-eq ms ns (and_r (eqb m n) (same_numbers ms ns) h) in
    cc

pub numbers-self : (ms : List ℕ) → T (same_numbers ms ms)
numbers-self [] = tt
numbers-self (m ∷ ms) = and_in (eqb m m) (same_numbers ms ms) (eqb_refl m) (numbers-self ms)
