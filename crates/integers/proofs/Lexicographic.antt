-- A test by a first thing, and where two are equal by it, by a number: p tests the first against the second, q the second
-- against the first. It is reflexive, total and transitive where the test of the first thing is.
use Prim.Native.Nat.{ℕ, ◌≤◌}
use native.Mathlib.Omega.{arith}
use mathlib.Core.Bool.{Bool, true, false, not, cond}
use lib.Dec.{T, leb, leb→le, le→leb, nleb→lt}

-- what it says
pub then-in : (p q : Bool) (m n : ℕ) → T p → (T q → m ≤ n) → T (cond p (cond q (leb m n) true) false)
then-in true true m n h k = le→leb m n (k tt)
then-in true false m n h k = tt
then-in false q m n h k = h

pub then-out : (p q : Bool) (m n : ℕ) → T (cond p (cond q (leb m n) true) false) → T p × (T q → m ≤ n)
then-out true true m n h = (tt, λ _. leb→le m n h)
then-out true false m n h = (tt, λ x. absurd x)
then-out false q m n h = absurd h

pub then-self : (p : Bool) (n : ℕ) → T p → T (cond p (cond p (leb n n) true) false)
then-self p n h = then-in p p n n h (λ _. omega arith)

pub then-either : (p q : Bool) (m n : ℕ) → (T (not p) → T q) → T (not (cond p (cond q (leb m n) true) false)) → T (cond q (cond p (leb n m) true) false)
then-either true true m n e h = omega (arith, nleb→lt m n h, le→leb)
then-either true false m n e h = h
then-either false true m n e h = tt
then-either false false m n e h = e tt

-- of a, b and c: p and q test a and b, r and s test b and c, u and v test a and c
pub then-through : (p q r s u v : Bool) (l m n : ℕ) → (T p → T r → T u) → (T r → T v → T q) → (T v → T p → T s)
    → T (cond p (cond q (leb l m) true) false) → T (cond r (cond s (leb m n) true) false) → T (cond u (cond v (leb l n) true) false)
then-through p q r s u v l m n on back over x y = go (then-out p q l m x) (then-out r s m n y)
  where
    go : T p × (T q → l ≤ m) → T r × (T s → m ≤ n) → T (cond u (cond v (leb l n) true) false)
    go h k = then-in u v l n (on h.0 k.0) (λ e. omega (arith, h.1 (back k.0 e), k.1 (over e h.0)))
