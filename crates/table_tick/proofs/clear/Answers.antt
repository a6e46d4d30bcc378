-- `clear` fills a part of the table.
use Prim.Native.Nat.{ℕ, zero, suc, ◌+◌, ◌-◌, ◌≤◌}
use native.Mathlib.Omega.{arith}
use native.Mathlib.Numerals.{add-one}
use mathlib.Core.Path.{◌≡◌, refl, sym, ap, ◌∙◌}
use mathlib.Core.List.{List}
use lib.ListN.{length, set, take, drop, replicate, length-drop, length-replicate}
use lib.Seq.{paste}
use lib.IntN.{ℤ}
use Rattle.std.proofs.lemmas.List.{length-take-le}
use Rattle.std.proofs.lemmas.List.Edits.{paste_none, fill_from_more}
use Rattle.std.proofs.lemmas.Slice.{put_mid-paste}
use Rattle.weighting.specs.Cell.{mark}
use Rattle.table.specs.Moves.{marked}
use Rattle.table_tick.proofs.clear.Goals as goal

marked-paste : (t : List ℤ) (a n : ℕ) → a + n ≤ length t → paste t a (replicate n mark) n ≡ marked t a n
unfolding marked
marked-paste t a zero h = sym (paste_none t a (replicate 0 mark))
marked-paste t a (suc n) h =
    ap (λ (m : ℕ). paste t a (replicate m mark) m) (sym (add-one n))
    ∙ sym (fill_from_more t a n mark (omega arith))
    ∙ ap (λ (u : List ℤ). set u (a + n) mark) (marked-paste t a n (omega arith))

pub returns : goal.returns
returns c =
    let a = c.args in
    let h = c.requires in
    let n = a.to - a.from in
    let part : length (take n (drop a.from a.table.now)) ≡ n = length-take-le n (drop a.from a.table.now) (omega (arith, length-drop a.from a.table.now)) in
    put_mid-paste a.from n a.table.now c.fill.new.self (replicate n mark) n
    (c.fill.ensures.after (λ y q. q) ∙ ap (λ (m : ℕ). replicate m mark) part) refl (sym (length-replicate n mark))
    ∙ marked-paste a.table.now a.from n (omega arith)
