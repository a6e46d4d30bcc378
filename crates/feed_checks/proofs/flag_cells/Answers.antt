-- `flag_cells`: the layout is the pattern's.
use Rattle.cells.specs.Layout.{layout_of}
use Rattle.monitor.proofs.CellLaws.{layout-made}
use Rattle.feed_checks.proofs.flag_cells.Goals as goal

pub cells_broken-requires : goal.cells_broken-requires
unfolding layout_of
cells_broken-requires c =
    let i = c.p.inside in
    let m = layout-made i.pattern c.p.invariant.0 i.layout c.p.invariant.1 in
    (rw (m.1, c.p.view_is) c.requires.0, rw (c.p.invariant.1, c.p.view_is) c.requires.1)
