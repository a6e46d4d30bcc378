-- An arbitrary weighting: the laws that margin and sum have in common.
use Rattle.std.specs.Prelude.{◌≡◌, Bool, List, [], ◌∷◌, T}
use Rattle.weighting.specs.Order.{Order}

-- Worths have an order (reflexive, total and transitive by `Order`, antisymmetric by `equal`) and a combination, by which
-- a better first part makes no worse a whole. The unit is the worth of
-- nothing; it is a unit for worths, and `worth` says which of W are worths.
pub record Weighting (W : Type 0) : Type 0 where
  pub order : Order W
  pub equal : (a b : W) → T (order.at_least a b) → T (order.at_least b a) → a ≡ b
  pub worth : W → Bool
  pub unit : W
  pub combine : W → W → W
  pub unit_worth : T (worth unit)
  pub combine_worth : (a b : W) → T (worth a) → T (worth b) → T (worth (combine a b))
  pub unit_left : (a : W) → T (worth a) → combine unit a ≡ a
  pub unit_right : (a : W) → T (worth a) → combine a unit ≡ a
  pub assoc : (a b c : W) → combine (combine a b) c ≡ combine a (combine b c)
  pub monotone : (a b c : W) → T (order.at_least a b) → T (order.at_least (combine a c) (combine b c))

-- A worth so far, combined with each of a list, from left to right.
unfoldable pub combine_from : {W : Type 0} → Weighting W → W → List W → W
combine_from 𝓦 a [] = a
combine_from 𝓦 a (b ∷ l) = combine_from 𝓦 (𝓦.combine a b) l

-- The worth of a list's worths together: the unit if there are none.
abbrev pub combine_all : {W : Type 0} → Weighting W → List W → W
combine_all 𝓦 l = combine_from 𝓦 𝓦.unit l
