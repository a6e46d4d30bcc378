-- Write a pattern (document 01, 'Write a pattern').
use Rattle.std.specs.Prelude.{◌≡◌, ℕ, cond, ◌++◌, ltb, length, drop, Result, Ok, Err}
use Rattle.pattern.specs.Refusal.{number_of}
use Rattle.pattern.specs.declared.Pattern.{Pattern}
use Rattle.pattern.specs.declared.Refusal.{Refusal}
use Rattle.pattern.specs.declared.Refusal.TheVariants.{OutputTooShort, UnsoundPattern}
use Rattle.pattern.specs.Sound.{sound_of}
use Rattle.pattern_text.specs.Bytes.{Bytes}
use Rattle.pattern_text.specs.Text.{render_of}

-- "7: unsound pattern value. 6: output too short." `room` is the output's length.
abbrev pub written_of : Pattern → (room : ℕ) → Result ℕ Refusal
written_of p room =
    cond (sound_of p)
    (cond (ltb room (length (render_of p))) (Err OutputTooShort) (Ok (length (render_of p))))
    (Err UnsoundPattern)

-- "Bytes past the text are untouched." "A refusal .. alters no lent memory."
abbrev pub holding : Result ℕ Refusal → Pattern → Bytes → Bytes
holding (Ok n) p out = render_of p ++ drop n out
holding (Err why) p out = out

-- what the output holds afterwards
abbrev pub output_of : Pattern → Bytes → Bytes
output_of p out = holding (written_of p (length out)) p out

-- What an answer says: the refusal's number (0 if there is none), and the text's length, zero beside a refusal.
abbrev pub written_as : Result ℕ Refusal → ℕ × ℕ
written_as (Ok n) = (0, n)
written_as (Err r) = (number_of r, 0)

-- What is due, in document 01's numbers.
abbrev pub written_numbers : Pattern → (room : ℕ) → ℕ × ℕ
written_numbers p room = cond (sound_of p) (cond (ltb room (length (render_of p))) (6, 0) (0, length (render_of p))) (7, 0)

-- Theorem: the two agree.
abbrev pub WrittenNumbers : Type 0
WrittenNumbers = (p : Pattern) (room : ℕ) → written_as (written_of p room) ≡ written_numbers p room
