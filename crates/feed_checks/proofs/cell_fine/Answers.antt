-- `cell_fine`: the mark is told by its bits.
use mir.Facts.{to_z-of_z}
use Rattle.monitor.specs.Feed.{cell_fine}
use Rattle.feed_checks.proofs.Marks.{mark-bits}
use Rattle.feed_checks.proofs.cell_fine.Goals as goal

pub returns : goal.returns
unfolding cell_fine
returns c = simp (to_z-of_z c.ranges.cell, mark-bits c.args.cell c.ranges.cell, c.unsigned_abs.ensures.value)
