-- The shortest among equals ("the best score among the runs .., and the least length among those with that score"):
-- a worth and a length are at least as good as others if the worth is better, or as good with a length no greater.
use Rattle.std.specs.Prelude.{ℕ, Bool, true, false, not, cond, T, leb}
use Rattle.integers.proofs.Lexicographic.{then-self, then-either, then-through}
use Rattle.weighting.specs.Order.{Order}

unfoldable pub shortest_test : {W : Type 0} → Order W → W × ℕ → W × ℕ → Bool
shortest_test O a b =
    cond (O.at_least a.0 b.0) (cond (O.at_least b.0 a.0) (leb a.1 b.1) true) false

-- The order by this test: reflexive, total and transitive since the order of worths is.
module _ {W : Type 0} (O : Order W) where
  pub shortest-self : (a : W × ℕ) → T (shortest_test O a a)
  unfolding shortest_test
  shortest-self a = then-self (O.at_least a.0 a.0) a.1 (O.self a.0)

  pub shortest-either : (a b : W × ℕ) → T (not (shortest_test O a b)) → T (shortest_test O b a)
  unfolding shortest_test
  shortest-either a b =
      then-either (O.at_least a.0 b.0) (O.at_least b.0 a.0) a.1 b.1 (O.either a.0 b.0)

  pub shortest-through : (a b c : W × ℕ) → T (shortest_test O a b) → T (shortest_test O b c) → T (shortest_test O a c)
  unfolding shortest_test
  shortest-through a b c =
      then-through (O.at_least a.0 b.0) (O.at_least b.0 a.0) (O.at_least b.0 c.0) (O.at_least c.0 b.0) (O.at_least a.0 c.0) (O.at_least c.0 a.0) a.1 b.1 c.1
      (O.through a.0 b.0 c.0)
      (O.through b.0 c.0 a.0)
      (O.through c.0 a.0 b.0)

  abbrev pub shortest : Order (W × ℕ)
  shortest = record { at_least = shortest_test O; self = shortest-self; either = shortest-either; through = shortest-through }
