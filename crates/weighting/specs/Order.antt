-- An order that a Bool tests, what is best by it, and the choice of the better of two.
use Rattle.std.specs.Prelude.{Bool, not, cond, List, [], ◌∷◌, T}
use Rattle.std.proofs.Math.Option.{Option, none, some}

-- `at_least a b`: a is at least as good as b. The laws: reflexive, total, transitive.
pub record Order (A : Type 0) : Type 0 where
  pub at_least : A → A → Bool
  pub self : (a : A) → T (at_least a a)
  pub either : (a b : A) → T (not (at_least a b)) → T (at_least b a)
  pub through : (a b c : A) → T (at_least a b) → T (at_least b c) → T (at_least a c)

-- o is the best of what has the property P: nothing has it and o is none; or o has it and none that has it is better.
abbrev pub IsBest : {A : Type 0} → Order A → (A → Type 0) → Option A → Type 0
IsBest {A} O P none = (b : A) → ¬ P b
IsBest {A} O P (some a) = P a × ((b : A) → P b → T (O.at_least a b))

-- The better of two, and of equals the first.
unfoldable pub better : {A : Type 0} → Order A → A → A → A
better O a b = cond (O.at_least a b) a b

-- The better of what was chosen so far, if anything was, and one more.
abbrev pub choose : {A : Type 0} → Order A → Option A → A → Option A
choose O none b = some b
choose O (some a) b = some (better O a b)

-- The choice among what was chosen so far and a list, from left to right.
unfoldable pub best_from : {A : Type 0} → Order A → Option A → List A → Option A
best_from O o [] = o
best_from O o (a ∷ l) = best_from O (choose O o a) l

-- The best of a list, and of equals the earliest.
abbrev pub best_of : {A : Type 0} → Order A → List A → Option A
best_of O l = best_from O none l
