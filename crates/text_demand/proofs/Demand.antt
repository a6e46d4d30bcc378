-- Demand 2 of pattern texts: both directions, from TextsExact.
use Prim.Native.Nat.{ℕ, ◌≤◌}
use native.Mathlib.Omega.{arith}
use mathlib.Core.Path.{◌≡◌, refl, sym, ap, subst, ◌∙◌}
use mathlib.Core.Bool.{Bool, true, false, cond}
use mathlib.Core.List.{◌++◌}
use borrow.Author.Tests.{le-ltb, ltb-false}
use lib.Dec.{ltb}
use lib.ListN.{length, take, drop}
use lib.Seq.{take_at}
use Rattle.pattern.specs.declared.Pattern.{Pattern}
use Rattle.pattern.specs.Sound.{sound_of}
use Rattle.pattern_text.specs.Bytes.{Bytes}
use Rattle.pattern_text.specs.Text.{Answer, accepted, refused, read_of, render_of}
use Rattle.pattern_text.proofs.Theorems.{texts_exact}
use Rattle.pattern_text.proofs.Stops.{refusal_numbers}
use Rattle.pattern_read.specs.Reading.{due_to, read_numbers}
use Rattle.pattern_write.specs.Written.{written_numbers, output_of}
use Rattle.text_demand.specs.Demand.{ReadIsWritten, WrittenIsRead, TextDemand2}

-- ---- a text that is accepted is the text of a sound pattern

accepts : (t : Bytes) (a : Answer) → read_of t ≡ a → (p : Pattern) → due_to a ≡ (0, p) → (sound_of p ≡ true) × (t ≡ render_of p)
accepts t (accepted q) e p k = (texts_exact t p).0 (e ∙ ap (λ (x : ℕ × Pattern). accepted x.1) k)
accepts t (refused r) e p k =
    let h = refusal_numbers t r e in
    let z = ap (λ (x : ℕ × Pattern). x.0) k in
    absurd (omega arith)

-- ---- what is written of a sound pattern

module _ (p : Pattern) (sound : sound_of p ≡ true) (out : Bytes) (h : length (render_of p) ≤ length out) where
  numbers_are : written_numbers p (length out) ≡ (0, length (render_of p))
  numbers_are = rw (sound, le-ltb (length out) (length (render_of p)) h)

  output-is : output_of p out ≡ render_of p ++ drop (length (render_of p)) out
  output-is = rw (sound, le-ltb (length out) (length (render_of p)) h)

-- a number 0 says that nothing was wrong
record Fine (p : Pattern) (room n : ℕ) : Type 0 where
  sound : sound_of p ≡ true
  fits : length (render_of p) ≤ room
  long : n ≡ length (render_of p)

fine : (p : Pattern) (room n : ℕ) → written_numbers p room ≡ (0, n) → Fine p room n
fine p room n = by (sound_of p) (ltb room (length (render_of p))) refl refl
  where
    by : (x y : Bool) → sound_of p ≡ x → ltb room (length (render_of p)) ≡ y
        → ◌≡◌ {A = ℕ × ℕ} (cond x (cond y (6, 0) (0, length (render_of p))) (7, 0)) (0, n) → Fine p room n
    by true true e k q = let z = ap (λ (x : ℕ × ℕ). x.0) q in absurd (omega arith)
    by true false e k q = record { sound = e; fits = ltb-false room (length (render_of p)) k; long = sym (ap (λ (x : ℕ × ℕ). x.1) q) }
    by false y e k q = let z = ap (λ (x : ℕ × ℕ). x.0) q in absurd (omega arith)

read-is-written : ReadIsWritten
read-is-written t r p reads is out a after writes room =
    let k = accepts t (read_of t) refl p (sym reads ∙ is) in
    let h : length (render_of p) ≤ length out = subst (λ (x : Bytes). length x ≤ length out) k.1 room in (
      writes.answer ∙ numbers_are p k.0 out h ∙ ap (λ (x : Bytes). (0, length x)) (sym k.1),
      writes.output ∙ output-is p k.0 out h ∙ ap (λ (x : Bytes). x ++ drop (length x) out) (sym k.1),
    )

written-is-read : WrittenIsRead
written-is-read p out a after n writes is r reads =
    let f = fine p (length out) n (sym writes.answer ∙ is) in
    let whole : take n after ≡ render_of p =
    ap (take n) (writes.output ∙ output-is p f.sound out f.fits) ∙ take_at (render_of p) (drop (length (render_of p)) out) n (sym f.long) in
    reads ∙ ap read_numbers whole ∙ ap due_to ((texts_exact (render_of p) p).1 (f.sound, refl))

pub text_demand2 : TextDemand2
text_demand2 = (read-is-written, written-is-read)
