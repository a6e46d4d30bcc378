-- What `read` answers (document 01, 'Read a pattern'): the answer of crate pattern_text's `read_of`, as the code hands it back,
-- and in document 01's numbers, where the pattern beside a refusal is zeros throughout.
use Rattle.std.specs.Prelude.{ℕ, ◌≡◌, ◌↔◌, true, Result, Ok, Err}
use Rattle.pattern.specs.declared.Pattern.{Pattern}
use Rattle.pattern.specs.declared.Refusal.{Refusal}
use Rattle.pattern.specs.declared.Refusal.TheVariants.{TextTooLong, BrokenForm, OutOfRange, TooMany, UnknownIndex}
use Rattle.pattern.specs.Refusal.{number_of}
use Rattle.pattern.specs.Sound.{no_pattern, sound_of}
use Rattle.pattern_text.specs.Bytes.{Bytes}
use Rattle.pattern_text.specs.Text.{Answer, accepted, refused, read_of, render_of}
use Rattle.pattern_text.specs.Claims.{Outcome as Cause}

-- the answer by its cause
abbrev pub reading_of : Answer → Result Pattern Refusal
reading_of (accepted p) = Ok p
reading_of (refused r) = Err r

-- The refusal's number, 0 if there is none.
abbrev pub outcome_number : {A : Type 0} → Result A Refusal → ℕ
outcome_number (Ok a) = 0
outcome_number (Err r) = number_of r

-- What an answer says: the number, and the pattern, zeros beside a refusal.
abbrev pub read_as : Result Pattern Refusal → ℕ × Pattern
read_as (Ok p) = (0, p)
read_as (Err r) = (number_of r, no_pattern)

-- What is due to a text: the number of its cause, and the pattern or zeros.
abbrev pub due_to : Answer → ℕ × Pattern
due_to (accepted p) = (0, p)
due_to (refused r) = (number_of r, no_pattern)

abbrev pub read_numbers : Bytes → ℕ × Pattern
read_numbers t = due_to (read_of t)

-- Document 01's number for each cause: 0 and p for the text of the sound pattern p; else the number of what is wrong with the
-- text, and zeros. What is wrong is by `pattern_text/specs/Claims` Outcome its length, its first faulty line, or that it ends
-- too soon.
pub data Due (t : Bytes) : ℕ → Pattern → Type 0 where
  sound : (p : Pattern) → sound_of p ≡ true → t ≡ render_of p → Due t 0 p
  too_long : Cause t (refused TextTooLong) → Due t 1 no_pattern
  broken_form : Cause t (refused BrokenForm) → Due t 2 no_pattern
  out_of_range : Cause t (refused OutOfRange) → Due t 3 no_pattern
  too_many : Cause t (refused TooMany) → Due t 4 no_pattern
  unknown_index : Cause t (refused UnknownIndex) → Due t 5 no_pattern

-- Theorem: every text is answered with what it gives cause for, and with nothing else.
abbrev pub ReadNumbers : Type 0
ReadNumbers = (t : Bytes) (n : ℕ) (p : Pattern) → (read_numbers t ≡ (n, p)) ↔ Due t n p
