-- Chunk by chunk: what was fed of the ticks is what is not left.
use Prim.Native.Nat.{ℕ, ◌+◌, ◌-◌, ◌*◌, ◌<◌}
use native.Mathlib.Omega.{arith}
use mathlib.Core.Path.{◌≡◌, ap, subst, ◌∙◌}
use lib.ListN.{length, take, drop}
use Rattle.pattern.specs.Distance.{Sample}
use Rattle.record.specs.Record.{sample_at, total, book_of}
use Rattle.record.proofs.RecordLaws.{parts, sample-within, part-sample}
use Rattle.monitor.specs.Cells.{written}
use Rattle.monitor.specs.Feed.{feed_scores, feed_lengths}
use Rattle.monitor.proofs.Written.{written-length}
use Rattle.best.specs.Search.{table_to, chosen_in, chosen_past, chunk_of, SearchedTo}
use Rattle.best.proofs.Turn.{onward, accepted-on, room-on}
use Rattle.best.proofs.feed_part.Goals as goal

-- the part of the values is a sample, and lies in the slice
pub overflow_mul-at : goal.overflow_mul-at
overflow_mul-at c =
    let a = c.args in
    let k = (parts a.p.now.channels a.lent.durations.now a.lent.values.now c.requires.0.fits).agree in
    let w = sample-within a.piece (length a.lent.durations.now) a.p.now.channels c.requires.2 in
    rw (c.from-channels.ensures, c.p.view_is) (omega arith)

pub overflow_add-sample : goal.overflow_add-sample
overflow_add-sample c =
    let a = c.args in
    let k = (parts a.p.now.channels a.lent.durations.now a.lent.values.now c.requires.0.fits).agree in
    let w = sample-within a.piece (length a.lent.durations.now) a.p.now.channels c.requires.2 in
    rw (c.from-channels.ensures, c.p.view_is) (omega arith)

pub offset_bounds-lent-at : goal.offset_bounds-lent-at
offset_bounds-lent-at c =
    let a = c.args in
    let k = (parts a.p.now.channels a.lent.durations.now a.lent.values.now c.requires.0.fits).agree in
    let w = sample-within a.piece (length a.lent.durations.now) a.p.now.channels c.requires.2 in
    rw (c.from-channels.ensures, c.p.view_is) (omega arith)

pub slice_bounds-sample-end : goal.slice_bounds-sample-end
slice_bounds-sample-end c =
    let a = c.args in
    let k = (parts a.p.now.channels a.lent.durations.now a.lent.values.now c.requires.0.fits).agree in
    let w = sample-within a.piece (length a.lent.durations.now) a.p.now.channels c.requires.2 in
    rw (c.from-channels.ensures, c.p.view_is) (omega arith)

pub loop-left-init : goal.loop-left-init
loop-left-init c =
    let k = c.requires.0 in
    let a = c.args in
    let e : total (take a.piece a.lent.durations.now) ≡ total (take a.piece a.lent.durations.now) + (a.count - a.count) = omega arith in (
      omega arith,
      subst (λ (n : ℕ). SearchedTo a.p.now (book_of a.p.now.channels a.lent.durations.now a.lent.values.now) n a.s) e k.searched,
      k.first ∙ ap (λ (n : ℕ). written a.p.now (table_to a.p.now (book_of a.p.now.channels a.lent.durations.now a.lent.values.now) n) a.first.now) e,
      c.requires.1,
    )

pub feed_some-search-requires : goal.feed_some-search-requires
feed_some-search-requires c =
    let st = c in
    let a = st.args in
    let l = c.loop-left in
    let e = c.min-ticks.ensures in (
      omega arith,
      room-on a.p.now st.requires.0.sound a.lent.durations.now a.lent.values.now st.requires.0.fits a.piece a.count l.left c.min-ticks.result st.requires.2 st.requires.3 l.invariant.0 (omega arith) e l.search
          l.first a.first.now st.requires.0.first_long l.invariant.1 l.invariant.2,
      rw (c.from-channels.ensures, c.p.view_is, part-sample a.p.now.channels a.piece a.lent.values.now) (accepted-on a.p.now st.requires.0.sound a.lent.durations.now a.lent.values.now st.requires.0.fits a.piece a.count l.left c.min-ticks.result st.requires.2 st.requires.3 l.invariant.0 (omega arith) e l.search
          l.first a.first.now st.requires.0.first_long l.invariant.1 l.invariant.2),
      l.invariant.3,
    )

pub overflow_sub-left : goal.overflow_sub-left
overflow_sub-left c = let e = c.min-ticks.ensures in omega arith

pub loop-left-smaller : goal.loop-left-smaller
loop-left-smaller c = let e = c.min-ticks.ensures in omega arith

pub loop-left-preserved : goal.loop-left-preserved
loop-left-preserved c =
    let st = c in
    let a = st.args in
    let l = c.loop-left in
    let d = c.min-ticks.result in
    let e = c.min-ticks.ensures in
    let more : 0 < l.left = c.loop-left-test.true in
    let o = c.feed_some-search.ensures in
    let n = c.from-channels.result in
    let at = a.piece * n in
    let sample : take (at + n - at) (drop at a.lent.values.now) ≡ sample_at a.p.now.channels a.lent.values.now a.piece = rw (c.from-channels.ensures, c.p.view_is) (part-sample a.p.now.channels a.piece a.lent.values.now) in
    let state-is = rw sample at o.state_value in
    let choice-is =
    subst
    (λ (v : Sample). chosen_in c.feed_some-search.result.choice
    ≡ chosen_past a.p.now (chosen_in l.search.choice) l.search.state.ticks (feed_scores a.p.now l.search.state l.first l.first (chunk_of d v)) (feed_lengths a.p.now l.search.state l.first l.first (chunk_of d v)) d)
    sample o.choice_value in
    let first-is = rw sample at o.first_after in
    let on =
    onward a.p.now st.requires.0.sound a.lent.durations.now a.lent.values.now st.requires.0.fits a.piece a.count l.left d st.requires.2 st.requires.3 l.invariant.0 more e l.search
    l.first a.first.now st.requires.0.first_long l.invariant.1 l.invariant.2 in
    (omega arith, (state-is ∙ on.0.0, choice-is ∙ on.0.1), first-is ∙ on.1, o.flagged)

pub shape_of-first : goal.shape_of-first
shape_of-first c =
    let st = c in
    ap length c.loop-left.invariant.2 ∙ written-length st.args.p.now st.requires.0.sound _ st.args.first.now st.requires.0.first_long

pub returns : goal.returns
returns c =
    let st = c in
    let a = st.args in
    let l = c.loop-left in
    let B = book_of a.p.now.channels a.lent.durations.now a.lent.values.now in
    let e : total (take a.piece a.lent.durations.now) + (a.count - l.left) ≡ total (take a.piece a.lent.durations.now) + a.count = omega arith in
    record {
      searched_to = subst (λ (n : ℕ). SearchedTo a.p.now B n l.search) e l.invariant.1;
      first_after = l.invariant.2 ∙ ap (λ (n : ℕ). written a.p.now (table_to a.p.now B n) a.first.now) e;
      flagged = l.invariant.3;
    }
