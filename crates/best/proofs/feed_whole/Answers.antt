-- The ticks until the table stands still are fed, and then the rest of the piece passes.
use Prim.Native.Nat.{ℕ, ◌+◌, ◌-◌, min}
use native.Mathlib.Omega.{arith}
use mathlib.Core.Path.{◌≡◌, sym, ap, subst, ◌∙◌}
use lib.ListN.{take, get_or}
use Rattle.record.specs.Record.{total, book_of}
use Rattle.record.proofs.RecordLaws.{total-more}
use Rattle.monitor.specs.Cells.{written}
use Rattle.best.specs.Search.{table_to, SearchedTo, passed}
use Rattle.best.proofs.Still.{room-passes, table-passes, passes}
use Rattle.best.proofs.feed_whole.Goals as goal

pub pass_rest-requires : goal.pass_rest-requires
pass_rest-requires c =
    let st = c in
    let a = st.args in
    let m = c.min-moved.result in
    let is : m ≡ min (get_or a.lent.durations.now a.piece 0) _ = c.min-moved.ensures in
    room-passes a.p.now st.requires.0.sound a.lent.durations.now a.lent.values.now a.piece st.requires.2 st.requires.0.fits m (omega arith)
    c.feed_part-search.result c.feed_part-search.ensures.searched_to

pub returns : goal.returns
returns c =
    let st = c in
    let a = st.args in
    let d = get_or a.lent.durations.now a.piece 0 in
    let m = c.min-moved.result in
    let is : m ≡ min d (a.p.now.high + 1) = rw (← c.p.view_is, ← c.from.ensures) c.min-moved.ensures in
    let o = c.feed_part-search.ensures in
    let B = book_of a.p.now.channels a.lent.durations.now a.lent.values.now in
    let e : total (take a.piece a.lent.durations.now) + d ≡ total (take (a.piece + 1) a.lent.durations.now) = sym (total-more a.lent.durations.now a.piece st.requires.2) in
    let s = passed c.feed_part-search.result (d - m) in
    let on = passes a.p.now st.requires.0.sound a.lent.durations.now a.lent.values.now a.piece st.requires.2 m is c.feed_part-search.result o.searched_to in
    record {
      searched_to = subst (SearchedTo a.p.now B (total (take (a.piece + 1) a.lent.durations.now))) (sym c.pass_rest.ensures) (subst (λ (n : ℕ). SearchedTo a.p.now B n s) e on);
      first_after =
          o.first_after
          ∙ table-passes a.p.now st.requires.0.sound a.lent.durations.now a.lent.values.now a.piece st.requires.2 m is a.first.now
          ∙ ap (λ (n : ℕ). written a.p.now (table_to a.p.now B n) a.first.now) e;
      flagged = o.flagged;
    }
