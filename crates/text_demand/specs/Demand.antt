-- Demand 2 of pattern texts (document 01, 'Read a pattern', 'Write a pattern'), over the operations: by what `read` and `write`
-- promise of their answers and of the lent output, whatever it held before. Proved in proofs/Demand.antt. That a text is
-- accepted exactly if it is a sound pattern's is ReadNumbers (`pattern_read/specs/Reading`).
use Rattle.std.specs.Prelude.{ℕ, ◌≤◌, ◌≡◌, ◌++◌, length, take, drop, Result}
use Rattle.pattern.specs.declared.Pattern.{Pattern}
use Rattle.pattern.specs.declared.Refusal.{Refusal}
use Rattle.pattern_text.specs.Bytes.{Bytes}
use Rattle.pattern_read.specs.Reading.{read_as, read_numbers}
use Rattle.pattern_write.specs.Written.{written_as, written_numbers, output_of}

-- `read` answers r to the text t.
abbrev pub Reads : Bytes → Result Pattern Refusal → Type 0
Reads t r = read_as r ≡ read_numbers t

-- `write` answers a to the pattern p, and the output, lent as `out`, then holds `after`.
pub record Writes (p : Pattern) (out : Bytes) (a : Result ℕ Refusal) (after : Bytes) : Type 0 where
  pub answer : written_as a ≡ written_numbers p (length out)
  pub output : after ≡ output_of p out

-- What was read as p is put back byte for byte into any output that is long enough; what stood behind it stays.
abbrev pub ReadIsWritten : Type 0
ReadIsWritten =
    (t : Bytes) (r : Result Pattern Refusal) (p : Pattern) → Reads t r → read_as r ≡ (0, p)
    → (out : Bytes) (a : Result ℕ Refusal) (after : Bytes) → Writes p out a after → length t ≤ length out
    → (written_as a ≡ (0, length t)) × (after ≡ t ++ drop (length t) out)

-- The first n bytes of an output into which a text of n bytes was written are read as the pattern that was written.
abbrev pub WrittenIsRead : Type 0
WrittenIsRead =
    (p : Pattern) (out : Bytes) (a : Result ℕ Refusal) (after : Bytes) (n : ℕ) → Writes p out a after → written_as a ≡ (0, n)
    → (r : Result Pattern Refusal) → Reads (take n after) r → read_as r ≡ (0, p)

abbrev pub TextDemand2 : Type 0
TextDemand2 = ReadIsWritten × WrittenIsRead
