-- The resets of an edge: putting them flag by flag gives their text.
use Prim.Native.Nat.{ℕ, suc, ◌+◌, ◌≤◌, ◌<◌}
use mathlib.Core.Path.{◌≡◌, refl, sym, ap, ◌∙◌}
use mathlib.Core.Bool.{Bool, true, false}
use mathlib.Core.List.{List, [], ◌∷◌, ◌++◌, append_assoc}
use native.Mathlib.Numerals.{add-one}
use Rattle.std.proofs.Math.Bool.{or-true, or-false}
use lib.ListN.{length, drop, get_or, drop_of_length-le}
use lib.Seq.{drop-cons}
use Rattle.pattern_text.specs.Bytes.{Bytes, bytes}
use Rattle.pattern_text.specs.Numeral.{decimal}
use Rattle.pattern_text.specs.Form.{◌▸◌, ◌◂◌, ◌⨾◌, many, number, write_many}
use Rattle.pattern_text.specs.Line.{bracket, write_resets}
use Rattle.pattern_text.specs.Text.{flagged}
use Rattle.text_put.specs.declared.Writer.{Writer}
use Rattle.text_put.specs.Put.{Puts}
use Rattle.line_write.specs.Resets.{before_clock, closing, flags_text}
use Rattle.text_put.proofs.PutLaws.{puts_none, puts_then}

-- ---- the text, flag by flag

further : (k : ℕ) (fs : List Bool) → flags_text true k fs ≡ write_many (λ c. bytes " " ++ decimal c) (flagged k fs) ++ bytes ")"
unfolding flags_text flagged write_many
further k [] = refl
further k (true ∷ fs) = ap (◌++◌ (bytes " " ++ decimal k)) (further (suc k) fs) ∙ sym (append_assoc (bytes " " ++ decimal k) _ _)
further k (false ∷ fs) = further (suc k) fs

flags-text : (k : ℕ) (fs : List Bool) → flags_text false k fs ≡ write_resets (flagged k fs)
unfolding flags_text flagged write_resets bracket ◌▸◌ ◌◂◌ ◌⨾◌ many number
flags-text k [] = refl
flags-text k (true ∷ fs) = ap (◌++◌ (bytes " (reset " ++ decimal k)) (further (suc k) fs)
flags-text k (false ∷ fs) = flags-text (suc k) fs

-- ---- the flags before the clock k are put

pub record Passed (a b : Writer) (begun : Bool) (k : ℕ) (fs : List Bool) : Type 0 where
  pub done : Bytes
  pub put : Puts a b done
  pub left : done ++ flags_text begun k (drop k fs) ≡ flags_text false 0 fs

pub passed_none : (w : Writer) (fs : List Bool) → Passed w w false 0 fs
passed_none w fs = record { done = []; put = puts_none w; left = refl }

-- a clock that is reset, and one that is not
pub passed-reset : {a b c : Writer} {begun : Bool} (k : ℕ) (fs : List Bool) → k < length fs → get_or fs k false ≡ true → Passed a b begun k fs → Puts b c (before_clock begun ++ decimal k)
    → Passed a c true (k + 1) fs
unfolding flags_text
passed-reset {begun = begun} k fs h f p q =
    record {
      done = p.done ++ (before_clock begun ++ decimal k);
      put = puts_then p.put q;
      left = rw add-one (append_assoc p.done _ _ ∙ rw (drop-cons fs k false h, f, or-true begun) at p.left);
    }

pub passed-kept : {a b : Writer} {begun : Bool} (k : ℕ) (fs : List Bool) → k < length fs → get_or fs k false ≡ false → Passed a b begun k fs → Passed a b begun (k + 1) fs
unfolding flags_text
passed-kept {begun = begun} k fs h f p =
    record { done = p.done; put = p.put; left = rw add-one (rw (drop-cons fs k false h, f, or-false begun) at p.left) }

pub passed-all : {a b c : Writer} {begun : Bool} (k : ℕ) (fs : List Bool) → length fs ≤ k → Passed a b begun k fs → Puts b c (closing begun) → Puts a c (write_resets (flagged 0 fs))
unfolding flags_text
passed-all {begun = begun} k fs h p q =
    let e : p.done ++ closing begun ≡ write_resets (flagged 0 fs) = rw (drop_of_length-le fs {i = k} h) at p.left ∙ flags-text 0 fs in
    rw e at (puts_then p.put q)
