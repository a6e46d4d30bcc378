-- `open` clears all cells needed and writes the empty runs.
use mathlib.Core.Path.{ap, ◌∙◌}
use Rattle.table.specs.Moves.{cleared}
use Rattle.table.proofs.Steps.{open_is}
use Rattle.table_tick.proofs.open.Goals as goal

pub returns : goal.returns
returns c =
    let a = c.args in
    open_is a.l a.w a.starts a.table.now _ _ (c.clear.ensures ∙ ap (cleared a.table.now 0) c.cells.ensures) c.begin.ensures
