-- What the order of the shortest among equals says.
use Prim.Native.Nat.{ℕ, ◌≤◌}
use native.Mathlib.Omega.{arith}
use mathlib.Core.Path.{◌≡◌}
use lib.Dec.{T}
use Rattle.integers.proofs.Lexicographic.{then-in, then-out}
use Rattle.weighting.specs.Order.{Order}
use Rattle.weighting.specs.Shortest.{shortest_test}

-- what the test says of two: no worse a worth, and among equals no longer
abbrev pub NoWorse : {W : Type 0} → Order W → W × ℕ → W × ℕ → Type 0
NoWorse O a b = T (O.at_least a.0 b.0) × (T (O.at_least b.0 a.0) → a.1 ≤ b.1)

pairs : {W : Type 0} (x y : W) (m n : ℕ) → x ≡ y → m ≡ n → ◌≡◌ {A = W × ℕ} (x, m) (y, n)
pairs x y m n e f = rw (e, f)

module _ {W : Type 0} (O : Order W) where
  pub shortest-in : (a b : W × ℕ) → NoWorse O a b → T (shortest_test O a b)
  unfolding shortest_test
  shortest-in a b h = then-in (O.at_least a.0 b.0) (O.at_least b.0 a.0) a.1 b.1 h.0 h.1

  pub shortest-out : (a b : W × ℕ) → T (shortest_test O a b) → NoWorse O a b
  unfolding shortest_test
  shortest-out a b h = then-out (O.at_least a.0 b.0) (O.at_least b.0 a.0) a.1 b.1 h

  -- where as good as each other is the same among worths, it is so among worths with lengths
  pub shortest-equal : ((a b : W) → T (O.at_least a b) → T (O.at_least b a) → a ≡ b) → (a b : W × ℕ) → T (shortest_test O a b) → T (shortest_test O b a) → a ≡ b
  shortest-equal equal a b x y = go (shortest-out a b x) (shortest-out b a y)
    where
      go : NoWorse O a b → NoWorse O b a → a ≡ b
      go h k =
          let e : a.0 ≡ b.0 = equal a.0 b.0 h.0 k.0 in
          let f : a.1 ≡ b.1 = omega (arith, h.1 k.0, k.1 h.0) in
          pairs a.0 b.0 a.1 b.1 e f
