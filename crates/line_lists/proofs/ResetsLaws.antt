-- The clocks of a bracket one by one; resets, from a bracket or none.
use Rattle.std.proofs.Common.{◌≡◌, ℕ, ◌≤◌, min, List, [], ◌∷◌, refl, sym, ap, ◌∙◌, arith}
use Rattle.std.specs.Prelude.{Option, Some, None}
use Rattle.std.specs.Option.{unwrap_or}
use Rattle.std.specs.Borrow.{Bor}
use Rattle.pattern_text.specs.Bytes.{Bytes, Reading, got, broken}
use Rattle.pattern_text.specs.Form.{giving, or_else, ◌▸◌, many, number}
use Rattle.pattern_text.specs.Line.{bracket, resets}
use Rattle.pattern_text.proofs.Tools.{never}
use Rattle.text_scan.specs.Scan.{read_of, cap, held_number}
use Rattle.text_scan.proofs.Answered.{met, unmet}
use Rattle.line_lists.specs.declared.Resets.{Resets}
use Rattle.line_lists.specs.ResetList.{no_resets, add_reset, added}
use Rattle.text_scan.proofs.Shorter.{spaced_shorter}
use Rattle.line_lists.proofs.Gather.{many-end, many_more}

module _ (clocks : ℕ) (s : Resets) (b : Bytes) where
  pub further_more : (v : ℕ) (r : Bytes) → got v r ≡ giving held_number ((" " ▸ number).read b)
      → giving (added clocks s) ((many (" " ▸ number)).read b) ≡ giving (added clocks (add_reset clocks s v)) ((many (" " ▸ number)).read r)
  unfolding many
  further_more v r e =
      let k = met held_number ((" " ▸ number).read b) e in
      rw (many_more (" " ▸ number).read spaced_shorter b k.raw r k.is)
      (go k.raw ((many (" " ▸ number)).read r) ∙ ap (λ (n : ℕ). giving (added clocks (add_reset clocks s n)) ((many (" " ▸ number)).read r)) (sym k.made))
    where
      go : (n : ℕ) (x : Reading (List ℕ)) → giving (added clocks s) (giving (◌∷◌ n) x) ≡ giving (added clocks (add_reset clocks s (min cap n))) x
      go n (got cs q) = refl
      go n broken = refl

  pub further_end : broken ≡ giving held_number ((" " ▸ number).read b) → got s b ≡ giving (added clocks s) ((many (" " ▸ number)).read b)
  unfolding many
  further_end e = rw (many-end (" " ▸ number).read spaced_shorter b (unmet held_number ((" " ▸ number).read b) e)) refl

pub spaced_small : (b : Bytes) (v : ℕ) (r : Bytes) → got v r ≡ giving held_number ((" " ▸ number).read b) → v ≤ cap
spaced_small b v r e = omega (arith, (met held_number ((" " ▸ number).read b) e).made)

-- a bracket, or none
pub resets_are : (clocks : ℕ) (t : Bor Bytes) (o : Option (Resets × Bor Bytes)) → read_of o ≡ giving (λ c. added clocks no_resets (c.0 ∷ c.1)) (bracket.read t.now)
    → got (unwrap_or o (no_resets, t)).0 (unwrap_or o (no_resets, t)).1.now ≡ giving (added clocks no_resets) (resets.read t.now)
unfolding resets
resets_are clocks t o e = go o (bracket.read t.now) e
  where
    go : (o : Option (Resets × Bor Bytes)) (w : Reading (ℕ × List ℕ)) → read_of o ≡ giving (λ c. added clocks no_resets (c.0 ∷ c.1)) w
        → got (unwrap_or o (no_resets, t)).0 (unwrap_or o (no_resets, t)).1.now ≡ giving (added clocks no_resets) (or_else (giving (λ (c, cs). c ∷ cs) w) (got [] t.now))
    go (Some x) (got c q) p = p
    go (Some x) broken p = never (sym p)
    go None (got c q) p = never p
    go None broken p = refl
