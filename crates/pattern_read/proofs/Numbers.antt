-- The answers of `read` in document 01's numbers.
use Prim.Native.Nat.{ℕ, ◌≤◌}
use native.Mathlib.Omega.{arith}
use mathlib.Core.Path.{◌≡◌, refl, ap, subst}
use Rattle.pattern.specs.declared.Pattern.{Pattern}
use Rattle.pattern.specs.declared.Refusal.{Refusal}
use Rattle.pattern.specs.declared.Refusal.TheVariants.{TextTooLong, BrokenForm, OutOfRange, TooMany, UnknownIndex, OutputTooShort, UnsoundPattern, BrokenRecord, BrokenSteps, NotARun, TableTooShort, BrokenState, TooManyTicks, BrokenCell}
use Rattle.pattern.specs.Refusal.{number_of}
use Rattle.pattern.specs.Sound.{no_pattern}
use Rattle.pattern_text.specs.Bytes.{Bytes}
use Rattle.pattern_text.specs.Text.{Answer, accepted, refused, read_of}
use Rattle.pattern_text.specs.Claims.{Outcome as Cause}
use Rattle.pattern_text.proofs.Theorems.{texts_exact}
use Rattle.pattern_text.proofs.Answers.{answers_exact}
use Rattle.pattern_text.proofs.Stops.{refusal_numbers}
use Rattle.pattern_read.specs.Reading.{reading_of, read_as, due_to, read_numbers, Due, sound, too_long, broken_form, out_of_range, too_many, unknown_index, ReadNumbers}

pub reading-as : (a : Answer) → read_as (reading_of a) ≡ due_to a
reading-as (accepted p) = refl
reading-as (refused r) = refl

-- a text has no other causes than the first five
faulty : (t : Bytes) (r : Refusal) → number_of r ≤ 5 → Cause t (refused r) → Due t (number_of r) no_pattern
faulty t TextTooLong h c = too_long c
faulty t BrokenForm h c = broken_form c
faulty t OutOfRange h c = out_of_range c
faulty t TooMany h c = too_many c
faulty t UnknownIndex h c = unknown_index c
faulty t OutputTooShort h c = absurd (omega arith)
faulty t UnsoundPattern h c = absurd (omega arith)
faulty t BrokenRecord h c = absurd (omega arith)
faulty t BrokenSteps h c = absurd (omega arith)
faulty t NotARun h c = absurd (omega arith)
faulty t TableTooShort h c = absurd (omega arith)
faulty t BrokenState h c = absurd (omega arith)
faulty t TooManyTicks h c = absurd (omega arith)
faulty t BrokenCell h c = absurd (omega arith)

due : (t : Bytes) (a : Answer) → read_of t ≡ a → Due t (due_to a).0 (due_to a).1
due t (accepted p) e = let k = (texts_exact t p).0 e in sound p k.0 k.1
due t (refused r) e = faulty t r (refusal_numbers t r e).1 ((answers_exact t (refused r)).0 e)

given : (t : Bytes) (n : ℕ) (p : Pattern) → Due t n p → read_numbers t ≡ (n, p)
given t n p (sound q s w) = ap due_to ((texts_exact t q).1 (s, w))
given t n p (too_long c) = ap due_to ((answers_exact t (refused TextTooLong)).1 c)
given t n p (broken_form c) = ap due_to ((answers_exact t (refused BrokenForm)).1 c)
given t n p (out_of_range c) = ap due_to ((answers_exact t (refused OutOfRange)).1 c)
given t n p (too_many c) = ap due_to ((answers_exact t (refused TooMany)).1 c)
given t n p (unknown_index c) = ap due_to ((answers_exact t (refused UnknownIndex)).1 c)

pub read-numbers : ReadNumbers
read-numbers t n p = (λ e. subst (λ (x : ℕ × Pattern). Due t x.0 x.1) e (due t (read_of t) refl), given t n p)
