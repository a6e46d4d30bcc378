-- `begin` writes the empty run where each start place begins.
use native.Mathlib.Omega.{arith}
use mathlib.Core.Path.{sym, subst}
use Rattle.cells.specs.declared.Layout.{Layout}
use Rattle.table.specs.Asks.{Filed}
use Rattle.cells.proofs.Digits.{block-some}
use Rattle.cells.proofs.Blocks.{blocks_inside, row_first}
use Rattle.table_tick.proofs.begin.Goals as goal

pub seeds-requires : goal.seeds-requires
seeds-requires c =
    let l = c.l.inside in
    let s : Layout = record { high = l.high; places = l.places; radices = l.radices; block = l.block; row = l.row } in
    let h = subst (Filed c.args.table.now) (sym c.l.view_is) c.requires in
    let u = blocks_inside s c.l.invariant l.places (omega arith) in
    let i = h.inside in
    (c.l.invariant.few, block-some s c.l.invariant, omega (arith, row_first s))
