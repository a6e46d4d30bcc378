-- `row` goes place by place.
use borrow.Author.Rules.{rules}
use Prim.Native.Nat.{◌+◌, ◌*◌}
use native.Mathlib.Omega.{arith}
use mathlib.Core.Path.{◌≡◌, refl, ◌∙◌, ap}
use lib.IntN.{pos}
use lib.ListN.{get_or}
use mir.Syntax.{w64}
use mir.Val.{to_z, of_z}
use mir.Facts.{to_z-of_z}
use Rattle.table.specs.declared.fixed.Ground.{Ground}
use Rattle.flags.proofs.Flags.{grown-refl, grown-trans}
use Rattle.table.specs.Moves.{each, gain_at, place_of}
use Rattle.table.specs.Reports.{told_place}
use Rattle.table.proofs.Steps.{each_more, ready-kept, known-place}
use Rattle.table.proofs.Kept.{Kept, kept_refl, kept_trans, place_kept}
use Rattle.table.proofs.Told.{place_same}
use Rattle.table_tick.proofs.row.Goals as goal

pub loop-p-init : goal.loop-p-init
unfolding each
loop-p-init c = record { kept = kept_refl _ _; moved = refl; told = refl; grown = grown-refl c.requires.2 }

pub place-best-requires : goal.place-best-requires
place-best-requires c =
    let a = c.args in
    let g = a.g.now in
    let l = c.loop-p in
    let places = ap (λ (x : Ground). x.layout.places) c.g.view_is in
    let x = get_or a.v.now.entered l.p (pos 0) in
    let y = get_or a.v.now.staying l.p (pos 0) in
    let q : to_z w64 (of_z w64 x) ≡ x = to_z-of_z {w = w64} {z = x} (record { sfits = search rules }) in
    let r : to_z w64 (of_z w64 y) ≡ y = to_z-of_z {w = w64} {z = y} (record { sfits = search rules }) in
    (known-place l.table g.layout a.v.now _ _ a.n l.p c.requires.0 (ready-kept l.invariant.kept c.requires.1) (omega arith) q r, l.invariant.grown.flagged)

pub loop-p-preserved : goal.loop-p-preserved
loop-p-preserved c =
    let a = c.args in
    let g = a.g.now in
    let w = g.weighing in
    let v = a.v.now in
    let l = c.loop-p in
    let x = get_or v.entered l.p (pos 0) in
    let y = get_or v.staying l.p (pos 0) in
    let q : to_z w64 (of_z w64 x) ≡ x = to_z-of_z {w = w64} {z = x} (record { sfits = search rules }) in
    let r : to_z w64 (of_z w64 y) ≡ y = to_z-of_z {w = w64} {z = y} (record { sfits = search rules }) in
    let u = c.place-best.new.table in
    let low = c.requires.1.low in
    let places = ap (λ (x : Ground). x.layout.places) c.g.view_is in
    let e : u ≡ place_of g.layout w g.edges g.count (gain_at v.entered l.p) (gain_at v.staying l.p) a.n l.p l.table = rw (q, r) at c.place-best.ensures.table_after in
    let f : c.place-best.result ≡ told_place g.layout w g.edges g.count a.tells.now (gain_at v.entered l.p) (gain_at v.staying l.p) a.n l.p a.table.now l.best =
    (rw (q, r) at c.place-best.ensures.value) ∙ place_same g.layout w g.edges g.count a.tells.now a.n a.table.now l.table l.invariant.kept g.laid (omega arith) _ _ l.p l.best (omega arith) in
    let k : Kept ((a.n + 1) * g.layout.row) l.table u = rw e (place_kept g.layout w a.n g.edges g.count _ _ l.p l.table) in
    record {
      kept = kept_trans l.invariant.kept k;
      moved = each_more (λ p. place_of g.layout w g.edges g.count (gain_at v.entered p) (gain_at v.staying p) a.n p) l.p a.table.now l.table u l.invariant.moved e;
      told = each_more (λ p. told_place g.layout w g.edges g.count a.tells.now (gain_at v.entered p) (gain_at v.staying p) a.n p a.table.now) l.p a.r l.best _ l.invariant.told f;
      grown = grown-trans l.invariant.grown c.place-best.ensures.grown;
    }
