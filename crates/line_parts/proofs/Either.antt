-- A test of either kind, from what was read of the one or the other.
use Rattle.std.proofs.Common.{◌≡◌, refl, ap, ◌∙◌}
use Rattle.std.proofs.Common.{inr}
use lib.IntN.{ℤ}
use Prim.Native.Nat.{ℕ}
use Rattle.pattern.specs.declared.Test.{Test}
use Rattle.pattern_text.specs.Bytes.{Bytes, Reading, got, broken}
use Rattle.pattern_text.specs.Form.{giving, mapped, either}
use Rattle.pattern_text.specs.Line.{side_of, inside_of, of_parts, side_test, band_test, test}
use Rattle.std.specs.Prelude.{Option, Some, None, MatchOption}
use Rattle.std.specs.Borrow.{Bor}
use Rattle.text_scan.specs.Scan.{read_of}
use Rattle.text_scan.proofs.Answered.{met, unmet}
use Rattle.line_parts.specs.Parts.{held_raw}

module _ (t : Bytes) where
  pub side_first : {y : Test} {r : Bytes} → got y r ≡ giving (λ x. held_raw (side_of x)) (side_test.read t) → got y r ≡ giving held_raw (test.read t)
  unfolding test mapped either
  side_first {r = r} e = let k = met (λ x. held_raw (side_of x)) (side_test.read t) e in rw k.is (ap (λ (y : Test). got y r) k.made)

  inside : (w : Reading (ℕ × (ℤ × ℤ))) → giving (λ x. held_raw (inside_of x)) w ≡ giving held_raw (giving of_parts (giving inr w))
  inside (got a r) = refl
  inside broken = refl

  pub band_next : (o : Reading Test) → broken ≡ giving (λ x. held_raw (side_of x)) (side_test.read t) → o ≡ giving (λ x. held_raw (inside_of x)) (band_test.read t)
      → o ≡ giving held_raw (test.read t)
  unfolding test mapped either
  band_next o e h = rw (unmet (λ x. held_raw (side_of x)) (side_test.read t) e) (h ∙ inside (band_test.read t))

-- as `or_else` answers, where E is what the closure says
pub of_either : {E : Type 0} (t : Bytes) (o q : Option (Test × Bor Bytes))
    → read_of o ≡ giving (λ x. held_raw (side_of x)) (side_test.read t) → MatchOption o E (λ x. q ≡ Some x)
    → (E → read_of q ≡ giving (λ x. held_raw (inside_of x)) (band_test.read t)) → read_of q ≡ giving held_raw (test.read t)
of_either t (Some x) q e h k = ap read_of h ∙ side_first t e
of_either t None q e h k = band_next t (read_of q) e (k h)
