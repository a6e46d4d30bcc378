-- `wipe_blocks` goes block by block; those to come are as they were.
use Prim.Native.Nat.{ℕ, ◌+◌, ◌-◌, ◌*◌, ◌≤◌}
use native.Mathlib.Omega.{arith}
use native.Mathlib.Nat.{zero-mul}
use mathlib.Core.Path.{◌≡◌, refl, sym, ap, subst, ◌∙◌}
use mathlib.Core.Bool.{false}
use Rattle.table.specs.declared.fixed.Ground.{Ground}
use Rattle.cells.specs.declared.Layout.{Layout}
use Rattle.cells.specs.Layout.{cells_in, Laid}
use Rattle.cells.proofs.Blocks.{row_next, row_inside, blocks_inside}
use Rattle.flags.specs.Flags.{RowFlagged}
use Rattle.flags.proofs.Bits.{bit_unset}
use Rattle.table.specs.Moves.{marked}
use Rattle.table.specs.Asks.{Empty}
use Rattle.table.proofs.Flags.{marked_append, marked-none, block-empty}
use Rattle.table_tick.proofs.wipe_blocks.Goals.{then-has_bit, else-has_bit}
use Rattle.table_tick.proofs.wipe_blocks.Goals as goal

-- the blocks of a row lie in the table
ends : (l : Layout) (n i : ℕ) → Laid l → n ≤ l.high → i ≤ 2 * l.places → n * l.row + i * l.block ≤ cells_in l
ends l n i laid low h = omega (arith, row_inside l n low, blocks_inside l laid i h)

pub overflow_mul-from : goal.overflow_mul-from
overflow_mul-from c =
    let low : c.args.n ≤ c.g.inside.0.0.high = rw (ap (λ (x : Ground). x.layout.high) c.g.view_is) c.requires.1 in
    let h = ends _ c.args.n 0 c.g.invariant low (omega arith) in
    let s = c.g.invariant.small in
    omega arith

pub loop-i-init : goal.loop-i-init
unfolding marked
loop-i-init c =
    let z : 0 * c.g.inside.0.0.block ≡ 0 = zero-mul c.g.inside.0.0.block in
    (refl, rw z refl)

pub overflow_add-at : goal.overflow_add-at
overflow_add-at c =
    let low : c.args.n ≤ c.g.inside.0.0.high = rw (ap (λ (x : Ground). x.layout.high) c.g.view_is) c.requires.1 in
    let h = ends _ c.args.n c.loop-i.i c.g.invariant low (omega arith) in
    let s = c.g.invariant.small in
    omega arith

pub overflow_add-at-then-has_bit : goal.overflow_add-at-then-has_bit
overflow_add-at-then-has_bit c =
    let low : c.args.n ≤ c.g.inside.0.0.high = rw (ap (λ (x : Ground). x.layout.high) c.g.view_is) c.requires.1 in
    let h = ends _ c.args.n (c.loop-i.i + 1) c.g.invariant low (omega arith) in
    let next = row_next c.loop-i.i c.g.inside.0.0.block in
    let s = c.g.invariant.small in
    omega arith

pub clear-requires : goal.clear-requires
clear-requires c =
    let a = c.args in
    let l = c.loop-i in
    let low : a.n ≤ c.g.inside.0.0.high = rw (ap (λ (x : Ground). x.layout.high) c.g.view_is) c.requires.1 in
    let h = ends _ a.n (l.i + 1) c.g.invariant low (omega arith) in
    let next = row_next l.i c.g.inside.0.0.block in
    let cells = ap (λ (x : Ground). cells_in x.layout) c.g.view_is in
    let long = c.requires.0 in
    let same = l.invariant.0 in
    (omega arith, omega arith)

pub loop-i-preserved : goal.loop-i-preserved
loop-i-preserved c =
    let a = c.args in
    let l = c.loop-i in
    let j = c.if-has_bit in
    let row = c.g.inside.0.0.row in
    let block = c.g.inside.0.0.block in
    let at = a.n * row + l.i * block in
    let size : at + block - at ≡ block = omega arith in
    let low : a.n ≤ c.g.inside.0.0.high = rw (ap (λ (x : Ground). x.layout.high) c.g.view_is) c.requires.1 in
    let flagged = subst (λ (x : Ground). RowFlagged x.layout a.table.now a.flags a.n) (sym c.g.view_is) c.requires.2 in
    let none : c.has_bit.result ≡ false → Empty l.table at block =
    λ no k under. rw l.invariant.1 (block-empty _ c.g.invariant a.table.now a.flags a.n l.i k flagged (omega arith) (bit_unset _ _ (rw c.has_bit.ensures at no)) under) in
    let e : j.table ≡ marked l.table at block =
    elim j.branch [
      | then-has_bit s ↦ s.table-is ∙ s.clear.ensures ∙ ap (marked l.table at) size
      | else-has_bit s ↦ s.table-is ∙ sym (marked-none l.table at block (none s.if-has_bit.false))
    ] in
    (j.auto.table ∙ l.invariant.0, (rw l.invariant.1 at e) ∙ marked_append a.table.now (a.n * row) (l.i * block) block ∙ ap (marked a.table.now (a.n * row)) (sym (row_next l.i block)))

pub returns : goal.returns
returns c =
    let a = c.args in
    let l = c.loop-i in
    let row = c.g.inside.0.0.row in
    let e : l.i ≡ 2 * c.g.inside.0.0.places = omega arith in
    rw (← ap (λ (x : Ground). x.layout.row) c.g.view_is)
    (l.invariant.1 ∙ ap (marked a.table.now (a.n * row)) (ap (λ (x : ℕ). x * c.g.inside.0.0.block) e ∙ sym c.g.invariant.row_is))
