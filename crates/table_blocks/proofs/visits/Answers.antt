-- `visits` goes through the occupied cells of a block, with the clocks of each. What is written lies after the block, so the
-- cells still to visit are as they were.
use borrow.Author.Rules.{rules}
use Prim.Native.Nat.{◌+◌, ◌*◌, zero-le}
use native.Mathlib.Omega.{arith}
use mathlib.Core.Path.{◌≡◌, sym, ap, ◌∙◌}
use mir.Syntax.{w64}
use mir.Val.{to_z, of_z}
use mir.Facts.{to_z-of_z}
use Rattle.cells.specs.Index.{clocks_at}
use Rattle.cells.proofs.Digits.{clocks-zero, ticked-within}
use Rattle.flags.proofs.Flags.{grown-refl, grown-trans}
use Rattle.table.specs.declared.Sent.{Sent}
use Rattle.table.specs.Moves.{each, visit_of, visits_of}
use Rattle.table.specs.Reports.{told_visit, told_visits}
use Rattle.table.specs.declared.fixed.Ground.{Ground}
use Rattle.table.proofs.Steps.{each_more, sized_in, passing_kept, passing_moving, sent_visit, visits_skip}
use Rattle.table.proofs.Told.{visit_same, told_visit_lem, told_skip}
use Rattle.table.proofs.Flags.{flagged-stay}
use Rattle.table.proofs.Kept.{Kept, kept_refl, kept_trans, stay-kept, visit_kept}
use Rattle.table_blocks.proofs.Spots.{Holds, found_by, above_by, skips_by, next_low}
use Rattle.table_blocks.proofs.visits.Goals as goal

pub loop-next-init : goal.loop-next-init
unfolding each
loop-next-init c =
    let a = c.args in
    let g = a.g.now in
    let b = a.b in
    let o = c.requires.2 in
    let skips = skips_by a.table.now b.start g.layout.block 0 a.first o in
    record {
      found = found_by a.table.now b.start g.layout.block 0 a.first o;
      kept = kept_refl _ _;
      past = zero-le;
      clocks_are = sym (clocks-zero g.layout.radices);
      moved = visits_skip g.layout g.weighing g.edges g.count b.gain b.len b.place b.start 0 _ a.table.now zero-le skips;
      told = told_skip g.layout g.weighing g.edges g.count a.tells.now b.gain b.len b.place b.start a.table.now 0 _ a.r zero-le skips;
      grown = grown-refl c.requires.3;
    }

pub visit-sent-requires : goal.visit-sent-requires
visit-sent-requires c =
    let l = c.loop-next in
    let g = c.args.g.now in
    let spot = c.in-Some.spot in
    let some : Holds l.table c.args.b.start g.layout.block spot = rw c.in-Some.is at l.invariant.found in
    let h = passing_kept l.invariant.kept c.requires.0 in
    let v : to_z w64 (of_z w64 spot.worth) ≡ spot.worth = to_z-of_z {w = w64} {z = spot.worth} (record { sfits = search rules }) in
    record {
      gain = sized_in c.requires.0.gain c.requires.1;
      worth = rw (v, some.is) (sized_in (h.bounded.at spot.cell some.low) some.holds);
      low = h.low;
      place = h.place;
      inside = h.inside;
    }

pub leaves-best-requires : goal.leaves-best-requires
leaves-best-requires c =
    let a = c.args in
    let g = a.g.now in
    let b = a.b in
    let l = c.loop-next in
    let e = c.visit-sent.ensures in
    let k : Kept ((b.len + 1) * g.layout.row) l.table c.visit-sent.new.table = rw e.table_after (stay-kept g.layout g.weighing b.len _ b.place _ _ l.table) in
    let up = l.invariant.grown in
    let x = ap (λ (s : Sent). s.clocks) e.value in (
      passing_moving _ (passing_kept k (passing_kept l.invariant.kept c.requires.0)) (rw x (ticked-within g.layout _ g.laid)),
      c.requires.0.place,
      rw e.table_after (flagged-stay g.layout g.laid g.weighing _ b.len b.place _ _ l.table l.flags c.requires.0.place (λ z. c.requires.4 (up.higher.keeps _ _ z)) up.flagged),
    )

pub loop-next-preserved : goal.loop-next-preserved
loop-next-preserved c =
    let a = c.args in
    let g = a.g.now in
    let b = a.b in
    let w = g.weighing in
    let l = c.loop-next in
    let t = a.table.now in
    let spot = c.in-Some.spot in
    let size = g.layout.block in
    let some : Holds l.table b.start size spot = rw c.in-Some.is at l.invariant.found in
    let m = c.leaves-best in
    let s = c.visit-sent.result in
    let e = c.visit-sent.ensures in
    let o = rw (ap (λ (x : Ground). x.layout.block) c.g.view_is) at c.occupied-next.ensures in
    let next = c.occupied-next.result in
    let here = c.clocks_to-here.ensures in
    let apart = c.requires.0.apart in
    let low = some.low in
    let v : to_z w64 (of_z w64 spot.worth) ≡ spot.worth = to_z-of_z {w = w64} {z = spot.worth} (record { sfits = search rules }) in
    let e0 = rw v at e.value in
    let e1 = rw v at e.table_after in
    let T0 : l.table ≡ visits_of g.layout w g.edges g.count b.gain b.len b.place b.start spot.cell t = rw c.in-Some.is at l.invariant.moved in
    let R0 : l.best ≡ told_visits g.layout w g.edges g.count a.tells.now b.gain b.len b.place b.start spot.cell t a.r = rw c.in-Some.is at l.invariant.told in
    let T1 : m.new.table ≡ visit_of g.layout w g.edges g.count b.gain b.len b.place b.start spot.cell (clocks_at g.layout.radices spot.cell) l.table =
    rw here at (m.ensures.table_after ∙ sent_visit g.layout w b.gain b.len b.place _ b.start spot.cell l.table g.edges g.count spot.worth s _ some.is some.holds e0 e1) in
    let R1 : m.result ≡ told_visit g.layout w g.edges g.count a.tells.now b.gain b.len b.place b.start spot.cell (clocks_at g.layout.radices spot.cell) t l.best =
    rw here at (m.ensures.value ∙ told_visit_lem g.layout w g.edges g.count a.tells.now b.gain b.len b.place b.start l.table spot.cell _ spot.worth s l.best some.is some.holds e0)
    ∙ visit_same g.layout w g.edges g.count a.tells.now b.len t l.table b.gain b.place b.start spot.cell _ l.best (l.invariant.kept.same (b.start + spot.cell) (omega arith)) in
    let kept : Kept ((b.len + 1) * g.layout.row) t m.new.table =
    kept_trans l.invariant.kept (rw T1 (visit_kept g.layout w b.len g.edges g.count b.gain b.place b.start spot.cell (clocks_at g.layout.radices spot.cell) l.table)) in
    let T : m.new.table ≡ visits_of g.layout w g.edges g.count b.gain b.len b.place b.start (spot.cell + 1) t =
    each_more (λ k. visit_of g.layout w g.edges g.count b.gain b.len b.place b.start k (clocks_at g.layout.radices k)) spot.cell t l.table m.new.table T0 T1 in
    let R : m.result ≡ told_visits g.layout w g.edges g.count a.tells.now b.gain b.len b.place b.start (spot.cell + 1) t a.r =
    each_more (λ k. told_visit g.layout w g.edges g.count a.tells.now b.gain b.len b.place b.start k (clocks_at g.layout.radices k) t) spot.cell a.r l.best m.result R0 R1 in
    let found = found_by m.new.table b.start size (spot.cell + 1) next o in
    let above = above_by m.new.table b.start size (spot.cell + 1) next (omega arith) o in
    let below = next_low m.new.table b.start size next found in
    let skips = skips_by m.new.table b.start size (spot.cell + 1) next o in
    record {
      found = found;
      kept = kept;
      past = omega arith;
      clocks_are = here;
      moved = T ∙ visits_skip g.layout w g.edges g.count b.gain b.len b.place b.start (spot.cell + 1) _ t above (λ j x y. rw T at (skips j x y));
      told = R ∙ told_skip g.layout w g.edges g.count a.tells.now b.gain b.len b.place b.start t (spot.cell + 1) _ a.r above (λ j x y. rw (kept.same (b.start + j) (omega arith)) at (skips j x y));
      grown = grown-trans l.invariant.grown m.ensures.grown;
    }
