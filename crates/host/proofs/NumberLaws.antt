-- What stands in a reading gives the numbers that are due to the answer.
use Prim.Native.Nat.{ℕ, ◌≤◌}
use native.Mathlib.Omega.{arith}
use mathlib.Core.Path.{◌≡◌, refl}
use mathlib.Core.Logic.{◌↔◌}
use Rattle.std.specs.Prelude.{Result, Err, MatchResult}
use Rattle.pattern.specs.declared.Refusal.{Refusal}
use Rattle.pattern.specs.Cells.{cells_of}
use Rattle.pattern_text.specs.Bytes.{Bytes}
use Rattle.pattern_text.specs.Text.{Answer, accepted, refused, read_of}
use Rattle.pattern_text.proofs.Theorems.{texts_exact}
use Rattle.monitor.specs.Open.{answer_number}
use Rattle.pattern_read.specs.Reading.{reading_of}
use Rattle.pattern_text.proofs.Stops.{refusal_numbers}
use Rattle.pattern.proofs.Claims.{some-cell}
use Rattle.host_told.specs.Told.{counted_cells}
use Rattle.host.specs.Numbers.{check_of, count_of, NumbersTell}

pub check_told : (a : Answer) → answer_number (reading_of a) ≡ check_of a
check_told (accepted p) = refl
check_told (refused r) = refl

-- the count of a text that is read, or what it is refused for
pub count-told : (t : Bytes) (a : Answer) → read_of t ≡ a → (r : Result ℕ Refusal) → MatchResult (reading_of a) (λ p. r ≡ cells_of p) (λ e. r ≡ Err e) → counted_cells r ≡ count_of a
unfolding cells_of
count-told t (accepted p) e r h = rw (h, ((texts_exact t p).0 e).0)
count-told t (refused q) e r h = rw h

tell : (t : Bytes) (a : Answer) → read_of t ≡ a → (check_of a ≤ 5) × ((count_of a ≡ 0) ↔ (1 ≤ check_of a))
tell t (accepted p) e = let h = some-cell p ((texts_exact t p).0 e).0 in (omega arith, (λ z. omega arith, λ z. omega arith))
tell t (refused r) e = let h = refusal_numbers t r e in (h.1, (λ z. h.0, λ z. refl))

pub numbers_tell : NumbersTell
numbers_tell t = tell t (read_of t) refl
