-- The cells before the block's first worth are marks, which are fine; a worth is no mark.
use native.Mathlib.Omega.{arith}
use mathlib.Core.Path.{◌≡◌, refl, sym, ◌∙◌}
use Prim.Native.Nat.{◌+◌, zero-le}
use mathlib.Core.Bool.{false}
use lib.ListN.{get_or}
use lib.IntN.{pos}
use Rattle.weighting.specs.Cell.{mark}
use Rattle.monitor.specs.Feed.{cell_fine}
use Rattle.feed_checks.specs.Mark.{is_mark}
use Rattle.feed_checks.proofs.Looks.{same-all, from-cell, one_fails}
use Rattle.feed_checks.proofs.Marks.{above-mark}
use Rattle.feed_checks.proofs.look_block.Goals as goal

pub returns-in-Some : goal.returns-in-Some
unfolding cell_fine
returns-in-Some c =
    let a = c.args in
    let t = a.table.now in
    let h = c.in-Some.ensures in
    let i = c.in-Some.first.cell in
    let fits = c.requires in
    let low = h.below in
    let worth : is_mark (get_or t (a.at + i) (pos 0)) ≡ false = above-mark (get_or t (a.at + i) (pos 0)) h.holds in
    record {
      fine_value = c.all_fine.ensures ∙ sym (from-cell cell_fine t a.at mark refl i a.size (omega arith) fits (λ j l. h.skips j zero-le l));
      held_value = rw (one_fails is_mark t a.at a.size i low fits worth) refl;
    }

pub returns-in-None : goal.returns-in-None
unfolding cell_fine
returns-in-None c =
    let a = c.args in
    let t = a.table.now in
    let fits = c.requires in
    record {
      fine_value = sym (same-all cell_fine t a.at mark refl a.size fits (λ j l. c.in-None.ensures j zero-le l));
      held_value = rw (same-all is_mark t a.at mark refl a.size fits (λ j l. c.in-None.ensures j zero-le l)) refl;
    }
