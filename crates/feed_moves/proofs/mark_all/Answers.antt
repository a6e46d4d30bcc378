-- `mark_all` clears all needed cells.
use native.Mathlib.Omega.{arith}
use mathlib.Core.Path.{ap, ◌∙◌}
use Rattle.table.specs.Moves.{cleared}
use Rattle.feed_moves.proofs.Lists.{cleared-is}
use Rattle.feed_moves.proofs.mark_all.Goals as goal

pub clear-requires : goal.clear-requires
clear-requires c =
    let e = c.cells.ensures in
    let h = c.requires in
    (omega arith, omega arith)

pub returns : goal.returns
returns c =
    let a = c.args in
    c.clear.ensures ∙ ap (cleared a.second.now 0) c.cells.ensures ∙ cleared-is a.p a.second.now c.requires
