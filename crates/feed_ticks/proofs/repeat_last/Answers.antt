-- The last report, once more for each place that is left; nothing where none is left.
use borrow.Author.Rules.{rules}
use Prim.Native.Nat.{ℕ, ◌-◌, ◌≤◌}
use native.Mathlib.Omega.{arith}
use mathlib.Core.Path.{◌≡◌, refl, sym, ap, ◌∙◌}
use mathlib.Core.List.{List}
use lib.ListN.{length, get_or, take, drop, replicate, length-drop, length-replicate}
use lib.IntN.{pos}
use mir.Syntax.{w64}
use mir.Val.{to_z, of_z}
use Rattle.std.proofs.lemmas.List.{length-take-le}
use Rattle.std.proofs.lemmas.Slice.{put_mid-paste}
use borrow.Rule.Slice.PartMut.{put_mid}
use Rattle.feed_ticks.specs.Ticks.{repeated}
use Rattle.feed_ticks.proofs.Repeated.{repeated-paste}
use Rattle.feed_ticks.proofs.repeat_last.Goals as goal

filled : {A : Type 0} (l part : List A) (from to : ℕ) (a : A) → from ≤ to → to ≤ length l → part ≡ replicate (length (take (to - from) (drop from l))) a → put_mid from (to - from) l part ≡ repeated l from (to - from) a
filled l part from to a low high e =
    let n = to - from in
    let long : length (take n (drop from l)) ≡ n = length-take-le n (drop from l) (omega (arith, length-drop from l)) in
    put_mid-paste from n l part (replicate n a) n (e ∙ ap (λ (m : ℕ). replicate m a) long) refl (sym (length-replicate n a))
    ∙ repeated-paste l from n a (omega arith)

pub returns-then-from-to : goal.returns-then-from-to
returns-then-from-to c =
    let a = c.args in
    let h = c.requires in
    let x = get_or a.scores.now (a.from - 1) (pos 0) in
    let z : to_z w64 (of_z w64 x) ≡ x = search rules in
    record {
      scores_after = rw z at (filled a.scores.now c.fill.new.self a.from a.to _ h.0 h.1 (c.fill.ensures.after (λ y q. q)));
      lengths_after = filled a.lengths.now c.fill-then-from-to.new.self a.from a.to _ h.0 h.2 (c.fill-then-from-to.ensures.after (λ y q. q));
    }

pub returns-else-from-to : goal.returns-else-from-to
unfolding repeated
returns-else-from-to c =
    let l = c.requires.0 in
    let e : c.args.to - c.args.from ≡ 0 = omega arith in
    record { scores_after = rw e; lengths_after = rw e }
