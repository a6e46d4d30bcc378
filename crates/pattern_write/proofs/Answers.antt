-- A text that fits is in the buffer whole; and the three answers.
use Prim.Native.Nat.{ℕ, ◌≤◌, ◌<◌, zero-le}
use mathlib.Core.Path.{◌≡◌, sym, ap, ◌∙◌}
use mathlib.Core.Bool.{true, false}
use mathlib.Core.List.{◌++◌}
use borrow.Author.Tests.{lt-ltb, le-ltb}
use lib.ListN.{length, take, drop}
use lib.Seq.{take_all, length-take-le}
use Rattle.pattern.specs.declared.Pattern.{Pattern}
use Rattle.std.proofs.Common.{Result, Ok, Err}
use Rattle.pattern.specs.declared.Refusal.{Refusal}
use Rattle.pattern.specs.declared.Refusal.TheVariants.{OutputTooShort, UnsoundPattern}
use Rattle.pattern.specs.Sound.{sound_of}
use Rattle.pattern.proofs.Said.{said}
use Rattle.pattern_text.specs.Bytes.{Bytes}
use Rattle.pattern_text.specs.Text.{render_of}
use Rattle.text_put.specs.Put.{Put}
use Rattle.text_put.proofs.PutLaws.{put-long, put-inside, put-text}
use Rattle.pattern_write.specs.Written.{written_of, output_of, written_as, written_numbers}
use Rattle.pattern_write.proofs.Numbers.{written-numbers}

pub record Whole (b : Bytes) (n : ℕ) (t : Bytes) : Type 0 where
  pub size : n ≡ length t
  pub room : n ≤ length b
  pub text : take n b ≡ t

pub whole : {b b' : Bytes} {n : ℕ} {t : Bytes} → Put b b' 0 n t → length t ≤ length b → Whole b' n t
whole {b} {b'} {n} {t} p h =
    let room : n ≤ length b' = rw (put-long p) (put-inside p zero-le) in
    let text : take n b' ≡ t = put-text p ∙ take_all (length b) t h in
    record { size = sym (length-take-le n b' room) ∙ ap length text; room = room; text = text }

pub copied : {b t r : Bytes} {n : ℕ} (out : Bytes) → Whole b n t → r ≡ take n b → r ++ drop n out ≡ t ++ drop (length t) out
copied {b} {t} {r} {n} out w e = rw (e, w.text, w.size)

-- ---- the three answers

module _ (p : Pattern) (out : Bytes) where
  -- what `write` promises of an answer and of what the output then holds
  abbrev pub Promised : Result ℕ Refusal → Bytes → Type 0
  Promised a o = (a ≡ written_of p (length out)) × (written_as a ≡ written_numbers p (length out)) × (o ≡ output_of p out)

  -- the numbers follow from the answer
  promised : {a : Result ℕ Refusal} {o : Bytes} → a ≡ written_of p (length out) → o ≡ output_of p out → Promised a o
  promised e o = let k = said written_as (written-numbers p (length out)) e in (k.0, k.1, o)

  pub unsound : sound_of p ≡ false → Promised (Err UnsoundPattern) out
  unsound e = promised (rw e) (rw e)

  pub too_short : sound_of p ≡ true → length out < length (render_of p) → Promised (Err OutputTooShort) out
  too_short e h = let k = lt-ltb (length out) (length (render_of p)) h in promised (rw (e, k)) (rw (e, k))

  pub written : {n : ℕ} {o : Bytes} → sound_of p ≡ true → length (render_of p) ≤ length out → n ≡ length (render_of p) → o ≡ render_of p ++ drop (length (render_of p)) out → Promised (Ok n) o
  written e h s k = let l = le-ltb (length out) (length (render_of p)) h in promised (rw (e, l) (ap Ok s)) (rw (e, l) k)
