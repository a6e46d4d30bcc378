-- `place` moves the cells just entered and then those staying; the row that it reads lies before the row that it writes.
use Prim.Native.Nat.{ℕ, ◌+◌, ◌*◌, ◌<◌}
use native.Mathlib.Omega.{arith}
use mathlib.Core.Path.{◌≡◌, refl, sym, ◌∙◌, ap}
use mathlib.Core.Bool.{false}
use mir.Syntax.{w64}
use mir.Val.{to_z, of_z}
use mir.Facts.{to_z-of_z}
use Rattle.table.specs.declared.fixed.Ground.{Ground}
use Rattle.cells.specs.declared.Layout.{Layout}
use Rattle.cells.specs.Layout.{Laid}
use Rattle.cells.specs.Index.{block_at}
use Rattle.flags.specs.Flags.{flag_at, Grown}
use Rattle.flags.proofs.Bits.{bit_unset}
use Rattle.flags.proofs.Flags.{grown-refl, grown-trans}
use Rattle.table.specs.Moves.{each, gain_in}
use Rattle.table.specs.Asks.{Empty}
use Rattle.table.proofs.Empty.{empty_pass, empty-told}
use Rattle.table.proofs.Flags.{flag_low, block_start}
use Rattle.table.proofs.Kept.{Kept, kept_refl, kept_trans, pass_kept}
use Rattle.table.proofs.Steps.{each_more, stage_pass, stage_told, stage_asks, stages-place, stages-told}
use Rattle.table.proofs.Told.{stage-same}
use Rattle.table_tick.proofs.place.Goals.{then-has_bit, else-has_bit}
use Rattle.table_tick.proofs.place.Goals as goal

pub loop-stage-init : goal.loop-stage-init
unfolding each
loop-stage-init c = record { kept = kept_refl _ _; moved = refl; told = refl; grown = grown-refl c.requires.1 }

-- a stage's place has one of 32 flags
flag-fits : (l : Layout) (stage p : ℕ) → Laid l → p < l.places → stage < 2 → flag_at l stage p < 32
flag-fits l stage p laid place two =
    let k = flag_low l stage p (omega arith) place in
    let f = laid.few in
    omega arith

pub pass-best-requires : goal.pass-best-requires
pass-best-requires c =
    let a = c.args in
    let g = a.g.now in
    let l = c.loop-stage in
    let x = c.gain_in.result in
    let k : to_z w64 (of_z w64 x) ≡ x = to_z-of_z {w = w64} {z = x} (record { sfits = c.gain_in.type_inv }) in
    let f : x ≡ gain_in a.entered a.staying l.stage = rw (to_z-of_z c.ranges.entered, to_z-of_z c.ranges.staying) at c.gain_in.ensures in
    let at = c.block_at.ensures in
    let up = l.invariant.grown in
    let low = c.requires.0.ready.low in (
      rw (k, f) (stage_asks g.layout g.weighing g.edges g.count a.entered a.staying a.n a.p a.table.now l.table l.stage _ g.laid c.requires.0 (omega arith) l.invariant.kept at),
      up.flagged,
    )

pub loop-stage-preserved : goal.loop-stage-preserved
loop-stage-preserved c =
    let a = c.args in
    let g = a.g.now in
    let w = g.weighing in
    let l = c.loop-stage in
    let j = c.if-has_bit in
    let y = to_z w64 (of_z w64 a.entered) in
    let z = to_z w64 (of_z w64 a.staying) in
    let x = c.gain_in.result in
    let k : to_z w64 (of_z w64 x) ≡ x = to_z-of_z {w = w64} {z = x} (record { sfits = c.gain_in.type_inv }) in
    let f : x ≡ gain_in y z l.stage = c.gain_in.ensures in
    let at : c.block_at.result ≡ block_at g.layout a.n l.stage a.p = c.block_at.ensures in
    let low = c.requires.0.ready.low in
    -- a block without a flag holds only marks
    let marks : c.has_bit.result ≡ false → Empty l.table (block_at g.layout a.n l.stage a.p) g.layout.block =
    λ none i h. rw (block_start g.layout a.n l.stage a.p) ((l.invariant.grown.flagged.rows a.n (omega arith)).marks (flag_at g.layout l.stage a.p) i (flag_low g.layout l.stage a.p (omega arith) c.requires.0.place) h (bit_unset _ _ (rw (c.has_bit.ensures, ap (λ (x : Ground). x.layout.places) c.g.view_is) at none))) in
    let e : j.table ≡ stage_pass g.layout w g.edges g.count y z a.n a.p l.stage l.table =
    elim j.branch [
      | then-has_bit s ↦ s.table-is ∙ rw (k, f, at) at s.pass-best.ensures.table_after
      | else-has_bit s ↦ s.table-is ∙ sym (empty_pass g.layout w g.edges g.count l.table (gain_in y z l.stage) a.n a.p _ (marks s.if-has_bit.false))
    ] in
    let t : j.best ≡ stage_told g.layout w g.edges g.count y z a.n a.p a.tells.now l.table l.stage l.best =
    elim j.branch [
      | then-has_bit s ↦ s.best-is ∙ rw (k, f, at) at s.pass-best.ensures.value
      | else-has_bit s ↦ s.best-is ∙ sym (empty-told g.layout w g.edges g.count l.table (gain_in y z l.stage) a.n a.p _ (marks s.if-has_bit.false) a.tells.now l.best)
    ] in
    let up : Grown g.layout j.table l.flags j.flags =
    elim j.branch [
      | then-has_bit s ↦ rw (s.table-is, s.flags-is) s.pass-best.ensures.grown
      | else-has_bit s ↦ rw (s.table-is, s.flags-is) (grown-refl l.invariant.grown.flagged)
    ] in
    let kept : Kept ((a.n + 1) * g.layout.row) l.table j.table = rw e (pass_kept g.layout w a.n g.edges g.count (gain_in y z l.stage) a.p _ l.table) in
    record {
      kept = kept_trans l.invariant.kept kept;
      moved = each_more (stage_pass g.layout w g.edges g.count y z a.n a.p) l.stage a.table.now l.table j.table l.invariant.moved e;
      told = each_more (stage_told g.layout w g.edges g.count y z a.n a.p a.tells.now a.table.now) l.stage a.r l.best _ l.invariant.told (stage-same g.layout w g.edges g.count a.tells.now (gain_in y z l.stage) a.n l.stage a.p _ a.table.now l.table l.best _ g.laid (omega arith) (omega arith) c.requires.0.place refl l.invariant.kept t);
      grown = grown-trans l.invariant.grown up;
    }

pub returns : goal.returns
returns c =
    let a = c.args in
    let g = a.g.now in
    let l = c.loop-stage in
    let y = to_z w64 (of_z w64 a.entered) in
    let z = to_z w64 (of_z w64 a.staying) in
    let q = to_z-of_z c.ranges.entered in
    let r = to_z-of_z c.ranges.staying in
    let two : l.stage ≡ 2 = omega arith in
    record {
      value = rw (q, r) at (stages-told g.layout g.weighing g.edges g.count y z a.n a.p a.tells.now a.table.now l.stage a.r l.best two l.invariant.told);
      table_after = rw (q, r) at (stages-place g.layout g.weighing g.edges g.count y z a.n a.p l.stage a.table.now l.table two l.invariant.moved);
      grown = l.invariant.grown;
    }
