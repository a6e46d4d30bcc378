-- `choose` is the better of what the cell holds and the worth; a cell with the mark holds nothing.
use Rattle.std.proofs.Common.{◌∙◌}
use Rattle.std.specs.Int.{w64}
use mir.Facts.{to_z-of_z}
use Rattle.weighting.specs.Weightings.{scale_of}
use Rattle.weighting.proofs.Cell.{chosen_is}
use Rattle.weighting.proofs.choose.Goals as goal

pub returns : goal.returns
returns c =
    let p = to_z-of_z c.ranges.cell in
    let q = to_z-of_z c.ranges.worth in
    let k = simp (p, q) at c.at_least-keeps.ensures in
    let e = simp (p, q, k) at c.one_of.ensures in
    to_z-of_z {w = w64} (record { sfits = c.one_of.type_inv }) ∙ e ∙ chosen_is (scale_of c.args.w).order c.args.cell c.args.worth c.ranges.cell
