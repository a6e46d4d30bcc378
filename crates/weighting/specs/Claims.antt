-- What is proved of the best, the shortest and the cells. The proofs are in proofs/.
use Rattle.std.specs.Prelude.{ℕ, ◌≤◌, ◌≡◌, ◌↔◌, T, ℤ}
use mathlib.Core.List.{List, ◌∷◌, Memᴰ}
use Rattle.std.proofs.Math.Option.{Option, some}
use Rattle.weighting.specs.Order.{Order, IsBest, best_of}
use Rattle.weighting.specs.Weighting.{Weighting, combine_all}
use Rattle.weighting.specs.Shortest.{shortest_test}
use Rattle.weighting.specs.Cell.{mark, cell_of, held_in}

-- The best of a list is the best of its members.
abbrev pub BestOfList : Type 1
BestOfList = (A : Type 0) (O : Order A) (l : List A) → IsBest O (λ a. Memᴰ a l) (best_of O l)

-- One is at least as good as another by worth and length exactly if its worth is, and where the worths are equally good
-- its length is no greater.
abbrev pub ShortestMeans : Type 1
ShortestMeans =
    (W : Type 0) (O : Order W) (a b : W × ℕ)
    → T (shortest_test O a b) ↔ (T (O.at_least a.0 b.0) × (T (O.at_least b.0 a.0) → a.1 ≤ b.1))

-- Worths combined from the left are the first one combined with the rest.
abbrev pub CombinedByParts : Type 1
CombinedByParts =
    (W : Type 0) (𝓦 : Weighting W) (a : W) → T (𝓦.worth a) → (l : List W)
    → combine_all 𝓦 (a ∷ l) ≡ 𝓦.combine a (combine_all 𝓦 l)

-- What is put into a cell is found in it, unless it is the mark; what is found in a cell and put back is the cell.
abbrev pub CellsKeep : Type 0
CellsKeep =
    ((o : Option ℤ) → (o ≡ some mark → ⊥) → held_in (cell_of o) ≡ o) × ((z : ℤ) → cell_of (held_in z) ≡ z)
