-- The lists of a line: tests and guards. Of a list's parts the first ones are kept, the others are only judged.
use Rattle.std.specs.Prelude.{ℕ, ◌+◌, min, List, map, Bool, true, cond, ◌&&◌, ltb, length, take, set, replicate}
use Rattle.pattern.specs.declared.Test.{Test}
use Rattle.pattern.specs.declared.Guard.{Guard}
use Rattle.pattern.specs.Slots.{all}
use Rattle.pattern.specs.Sound.{no_test, no_guard, test_in_range, test_known, guard_in_range, guard_known}
use Rattle.pattern_text.specs.Text.{pad}
use Rattle.line_parts.specs.Parts.{held_test, held_guard}
use Rattle.line_lists.specs.declared.Parts.{Parts}

-- no part so far
abbrev pub no_parts : {A : Type 0} → (size : ℕ) → A → Parts A size
no_parts size unused = record { parts = replicate size unused; count = 0; in_range = true; known = true }

-- one part more
unfoldable pub with_part : {A : Type 0} {size : ℕ} → (in_range known : A → Bool) → Parts A size → A → Parts A size
with_part {size = size} in_range known s x = record {
  parts = cond (ltb s.count size) (set s.parts s.count x) s.parts;
  count = min 256 (s.count + 1);
  in_range = s.in_range && in_range x;
  known = s.known && known x;
}

-- some parts: the first ones, held, how many, whether all are in range, whether all are known
unfoldable pub gathered : {A : Type 0} → (size : ℕ) → A → (hold : A → A) → (in_range known : A → Bool) → List A → Parts A size
gathered size unused hold in_range known xs = record {
  parts = pad size unused (take size (map hold xs));
  count = min 256 (length xs);
  in_range = all in_range xs;
  known = all known xs;
}

-- some tests: whether all channels are known
abbrev pub gathered_tests : (channels : ℕ) → List Test → Parts Test 4
gathered_tests channels = gathered 4 no_test held_test test_in_range (test_known channels)

-- some guards: whether all clocks are known
abbrev pub gathered_guards : (clocks : ℕ) → List Guard → Parts Guard 4
gathered_guards clocks = gathered 4 no_guard held_guard guard_in_range (guard_known clocks)
