-- `Plan::cells`: the layout is that of the pattern.
use mathlib.Core.Path.{◌∙◌, ap}
use Rattle.pattern.specs.Cells.{cells_needed}
use Rattle.monitor.proofs.CellLaws.{layout-made}
use Rattle.monitor.proofs.plan.Plan.cells.Goals as goal

pub returns : goal.returns
returns c =
    let m = layout-made c.self.inside.pattern c.self.invariant.0 c.self.inside.layout c.self.invariant.1 in
    c.cells.ensures ∙ m.1 ∙ ap cells_needed c.self.view_is
