-- Piece by piece.
use Prim.Native.Nat.{ℕ, ◌+◌}
use native.Mathlib.Omega.{arith}
use mathlib.Core.Path.{◌≡◌, ap, subst, ◌∙◌}
use lib.ListN.{length, take}
use lib.Seq.{take_all}
use Rattle.record.specs.Record.{total, book_of}
use Rattle.monitor.specs.Cells.{written}
use Rattle.monitor.proofs.Written.{written-length, written_again}
use Rattle.best.specs.Search.{table_to, SearchedTo}
use Rattle.best.proofs.Turn.{fit_on}
use Rattle.best.proofs.feed_all.Goals as goal

pub loop-piece-init : goal.loop-piece-init
loop-piece-init c = let k = c.requires in (k.0, k.0.first, k.1)

pub feed_whole-search-requires : goal.feed_whole-search-requires
feed_whole-search-requires c = let l = c.loop-piece in (l.invariant.0, l.invariant.2, omega arith)

pub loop-piece-preserved : goal.loop-piece-preserved
loop-piece-preserved c =
    let a = c.args in
    let l = c.loop-piece in
    let o = c.feed_whole-search.ensures in
    let U = table_to a.p.now (book_of a.p.now.channels a.lent.durations.now a.lent.values.now) (total (take (l.piece + 1) a.lent.durations.now)) in (
      fit_on a.p.now a.lent.durations.now a.lent.values.now l.piece (l.piece + 1) l.search c.feed_whole-search.result l.first _ l.invariant.0 o.searched_to o.first_after,
      o.first_after ∙ ap (written a.p.now U) l.invariant.1 ∙ written_again a.p.now U _ a.first.now,
      o.flagged,
    )

pub shape_of-first : goal.shape_of-first
shape_of-first c =
    let st = c in
    ap length c.loop-piece.invariant.1 ∙ written-length st.args.p.now st.requires.0.sound _ st.args.first.now st.requires.0.first_long

pub returns : goal.returns
returns c =
    let a = c.args in
    let l = c.loop-piece in
    let B = book_of a.p.now.channels a.lent.durations.now a.lent.values.now in
    let e : total (take l.piece a.lent.durations.now) ≡ total a.lent.durations.now = ap total (take_all l.piece a.lent.durations.now (omega arith)) in
    record {
      searched_to = subst (λ (n : ℕ). SearchedTo a.p.now B n l.search) e l.invariant.0.searched;
      first_after = l.invariant.1 ∙ ap (λ (n : ℕ). written a.p.now (table_to a.p.now B n) a.first.now) e;
      flagged = l.invariant.2;
    }
