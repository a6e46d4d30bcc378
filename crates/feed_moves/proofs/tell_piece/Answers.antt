-- The ticks until the table stands still are moved and told, and then the last report is told again.
use Prim.Native.Nat.{ℕ, ◌+◌, ◌-◌, ◌≤◌, min}
use native.Mathlib.Omega.{arith}
use mathlib.Core.Path.{◌≡◌, ap, ◌∙◌}
use mathlib.Core.List.{List}
use mathlib.Core.Bool.{true}
use Rattle.pattern.specs.Sound.{sound_of}
use lib.ListN.{length, get_or}
use lib.IntN.{ℤ, pos}
use Rattle.monitor.specs.Cells.{layout}
use Rattle.monitor.specs.Tick.{score_in, length_in}
use Rattle.feed_ticks.specs.Ticks.{Common, repeated}
use Rattle.feed_moves.proofs.Meaning.{fine-whole, telling, written-to, scores-told, lengths-told}
use Rattle.feed_moves.proofs.Still.{table-still, reports-still}
use Rattle.feed_moves.proofs.tell_piece.Goals as goal

pub tell_all-requires : goal.tell_all-requires
tell_all-requires c =
    let a = c.args in
    let sound : sound_of a.p.now ≡ true = rw (← c.p.view_is) c.p.invariant.0 in
    let fine = c.requires.0 in
    let long = c.requires.1 in
    let whole = fine-whole a.p.now sound a.first.now long c.requires.2 in
    let m = c.min-moved.result in
    let is : m ≡ min a.duration _ = c.min-moved.ensures in
    let scores = c.requires.3 in
    let lengths = c.requires.4 in
    let l : c.ground_of.result.layout ≡ layout a.p.now = ap (λ (k : Common). k.layout) c.ground_of.ensures in (
      rw (l, c.view_in-v.ensures, c.view_in-u.ensures, c.p.view_is)
          (telling a.p.now sound a.values.now fine a.last.now a.first.now long whole _ _ _ (omega arith) (omega arith)),
      rw l c.requires.5,
    )

pub repeat_last-requires : goal.repeat_last-requires
repeat_last-requires c =
    let a = c.args in
    let m = c.min-moved.result in
    let is : m ≡ min a.duration _ = c.min-moved.ensures in
    let k = c.tell_all in
    let scores = c.requires.3 in
    let lengths = c.requires.4 in
    let scores_are_long : length k.new.scores ≡ length a.scores.now = k.auto.scores in
    let lengths_are_long : length k.new.lengths ≡ length a.lengths.now = k.auto.lengths in
    let scores-room : a.duration ≤ length k.new.scores = omega arith in
    let lengths-room : a.duration ≤ length k.new.lengths = omega arith in
    (omega arith, scores-room, lengths-room, λ h. omega arith)

pub returns : goal.returns
returns c =
    let a = c.args in
    let sound : sound_of a.p.now ≡ true = rw (← c.p.view_is) c.p.invariant.0 in
    let fine = c.requires.0 in
    let long = c.requires.1 in
    let whole = fine-whole a.p.now sound a.first.now long c.requires.2 in
    let o = c.tell_all.ensures in
    let r = c.repeat_last.ensures in
    let m = c.min-moved.result in
    let d = a.duration in
    let is : m ≡ min d (a.p.now.high + 1) = rw (← c.p.view_is, ← c.from-still.ensures) c.min-moved.ensures in
    let g = c.ground_of.ensures in
    let v = c.view_in-v.ensures in
    let u = c.view_in-u.ensures in
    let e = c.p.view_is in
    let l : c.ground_of.result.layout ≡ layout a.p.now = ap (λ (k : Common). k.layout) g in
    record {
      first_after = o.first_after ∙ rw (g, v, u, e) (written-to a.p.now sound a.values.now fine a.last.now a.first.now long whole m) ∙ table-still a.p.now sound a.last.now a.values.now a.first.now d m is;
      scores_after =
          r.scores_after
          ∙ ap (λ (x : List ℤ). repeated x m (d - m) (get_or x (m - 1) (pos 0))) (o.scores_after ∙ rw (g, v, u, e) (scores-told a.p.now sound a.values.now fine a.last.now a.first.now long whole a.scores.now m))
          ∙ reports-still a.p.now sound a.last.now a.values.now a.first.now d m is score_in a.scores.now (pos 0) c.requires.3;
      lengths_after =
          r.lengths_after
          ∙ ap (λ (x : List ℕ). repeated x m (d - m) (get_or x (m - 1) 0)) (o.lengths_after ∙ rw (g, v, u, e) (lengths-told a.p.now sound a.values.now fine a.last.now a.first.now long whole a.lengths.now m))
          ∙ reports-still a.p.now sound a.last.now a.values.now a.first.now d m is length_in a.lengths.now 0 c.requires.4;
      flagged = rw (← l) o.flagged;
    }
