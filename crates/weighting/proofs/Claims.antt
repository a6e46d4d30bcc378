-- The claims of specs/Claims, from the laws.
use Rattle.weighting.specs.Claims.{BestOfList, ShortestMeans, CombinedByParts, CellsKeep}
use Rattle.weighting.proofs.Best.{best_of_best}
use Rattle.weighting.proofs.Shortest.{shortest-in, shortest-out}
use Rattle.weighting.proofs.Worths.{combine_all-cons}
use Rattle.weighting.proofs.Cell.{held_in-cell_of, cell_of-held_in}

pub best_of_list : BestOfList
best_of_list A O l = best_of_best O l

pub shortest_means : ShortestMeans
shortest_means W O a b = (shortest-out O a b, shortest-in O a b)

pub combined_by-parts : CombinedByParts
combined_by-parts W 𝓦 a h l = combine_all-cons 𝓦 a h l

pub cells_keep : CellsKeep
cells_keep = (λ o h. held_in-cell_of o h, cell_of-held_in)
