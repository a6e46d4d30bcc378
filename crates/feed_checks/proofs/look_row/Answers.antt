-- Blocks of one cell are looked at by `look_cells`. The loop has looked at the first i blocks of the row.
use native.Mathlib.Omega.{arith}
use Prim.Native.Nat.{ℕ, ◌*◌, ◌≤◌}
use mathlib.Core.Path.{◌≡◌, sym, subst}
use mathlib.Core.List.{List}
use lib.ListN.{length}
use lib.IntN.{ℤ}
use Rattle.cells.specs.declared.Layout.{Layout}
use Rattle.cells.specs.Layout.{cells_in}
use Rattle.monitor.specs.Feed.{cell_fine}
use Rattle.feed_checks.proofs.Looks.{part-more}
use Rattle.feed_checks.proofs.Flagging.{flagged-more, block_inside}
use Rattle.feed_checks.proofs.look_row.Goals as goal

-- what is asked of the layout, of one that is the same
asked : (t : List ℤ) (n : ℕ) (l m : Layout) → l ≡ m → (cells_in l ≤ length t) × (n ≤ l.high) → (cells_in m ≤ length t) × (n ≤ m.high)
asked t n l m e h = subst (λ (s : Layout). (cells_in s ≤ length t) × (n ≤ s.high)) e h

pub look_block-b-requires : goal.look_block-b-requires
look_block-b-requires c =
    let h = asked c.args.table.now c.args.n c.args.l _ (sym c.l.view_is) c.requires in
    omega (arith, block_inside _ c.l.invariant c.args.n c.loop-i.i h.1 (omega arith), h.0)

pub loop-i-preserved : goal.loop-i-preserved
loop-i-preserved c =
    let l = c.loop-i in
    let a = c.args in
    let t = a.table.now in
    let from = a.n * c.l.inside.row in
    let size = c.l.inside.block in
    let b = c.look_block-b in
    let h = asked t a.n a.l _ (sym c.l.view_is) c.requires in (
      rw (l.invariant.0, b.ensures.fine_value) (sym (part-more cell_fine t from l.i size)),
      rw c.with_bit-flags.ensures (flagged-more t from size l.i l.flags b.result.held (omega (arith, block_inside _ c.l.invariant a.n l.i h.1 (omega arith), h.0)) b.ensures.held_value l.invariant.1),
    )
