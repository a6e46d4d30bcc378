-- `block_at` is the block's first index; the table is small, so nothing wraps.
use native.Mathlib.Omega.{arith}
use mathlib.Core.Path.{refl, sym, subst}
use Rattle.cells.specs.declared.Layout.{Layout}
use Rattle.cells.specs.Index.{block_at, Placed}
use Rattle.cells.proofs.Blocks.{in_table}
use Rattle.cells.proofs.block_at.Goals as goal

-- What is promised stands first, so that a wrong body is refused there (decision 64).
pub returns : goal.returns
unfolding block_at
returns c = rw (← c.l.view_is) refl

pub overflow_add-result-2 : goal.overflow_add-result-2
overflow_add-result-2 c =
    let a = c.args in
    let placed = subst (λ (s : Layout). Placed s a.n a.stage a.p) (sym c.l.view_is) c.requires in
    let h = in_table _ a.n a.stage a.p placed in
    let laid = placed.laid in
    omega arith
