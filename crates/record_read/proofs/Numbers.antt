-- The answers of `check` in document 01's numbers: by cases on what is asked.
use Prim.Native.Nat.{ℕ, ◌<◌}
use mathlib.Core.Path.{◌≡◌, refl}
use mathlib.Core.List.{List}
use mathlib.Core.Option.{Option, none, some}
use mathlib.Core.Bool.{Bool, true, false, cond}
use lib.Dec.{ltb}
use lib.ListN.{length}
use Rattle.pattern.specs.declared.Refusal.TheVariants.{TextTooLong, BrokenRecord}
use Rattle.record_text.specs.Piece.{RawPiece}
use Rattle.record_text.specs.Text.{read_record, pieces_sound, pieces_refusal, record_refusal}
use Rattle.record_read.specs.Check.{checked_of, checked_as, pieces_number, check_number, CheckNumbers}
use Rattle.std.specs.Prelude.{Err}
use Rattle.pattern.specs.Refusal.{number_of}
use borrow.Author.Tests.{lt-ltb}

-- over 16,384 bytes is 1, before all else
pub long_refused : (n : ℕ) (t : List ℕ) → 16_384 < length t → Err TextTooLong ≡ checked_of (record_refusal n t)
unfolding record_refusal
long_refused n t h = rw (lt-ltb 16_384 (length t) h) refl

pub long_number : (n : ℕ) (t : List ℕ) → 16_384 < length t → number_of TextTooLong ≡ check_number n t
long_number n t h = rw (lt-ltb 16_384 (length t) h) refl

pub check_numbers : CheckNumbers
unfolding record_refusal
check_numbers n t = by (ltb 16_384 (length t)) (read_record t)
  where
    judged : (x : Bool) → checked_as (checked_of (cond x none (some BrokenRecord))) ≡ cond x 0 8
    judged true = refl
    judged false = refl

    by : (x : Bool) (o : Option (List RawPiece))
        → checked_as (checked_of (cond x (some TextTooLong) (pieces_refusal n o))) ≡ cond x 1 (pieces_number n o)
    by true o = refl
    by false none = refl
    by false (some rs) = judged (pieces_sound n rs)
