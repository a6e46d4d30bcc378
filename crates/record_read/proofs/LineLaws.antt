-- A piece's line, from its parts.
use Rattle.std.proofs.Common.{◌≡◌, ℕ, ◌≤◌, ◌<◌, min, List, [], ◌∷◌, length, drop, replicate, get_or, refl, sym, ap, ◌∙◌, arith}
use lib.IntN.{ℤ, pos}
use Rattle.pattern_text.specs.Bytes.{Bytes, bytes, Reading, got, broken}
use Rattle.pattern_text.specs.Numeral.{numeral_of}
use Rattle.pattern_text.specs.Form.{strip, giving, ◌▸◌, ◌◂◌, ◌⨾◌, many, mapped, number}
use Rattle.pattern_text.proofs.FormLaws.{giving_inv}
use Rattle.text_scan.proofs.Answered.{met, unmet}
use Rattle.line_lists.specs.declared.Parts.{Parts}
use Rattle.text_scan.proofs.Shorter.{shrinks}
use Rattle.line_lists.proofs.Gather.{many-end, many_more}
use Rattle.record_text.specs.Piece.{values_in, value, piece_line}
use Rattle.record_text.proofs.LineLaws.{value_exact, value-long}
use Rattle.record_read.specs.declared.Value.{Value}
use Rattle.record_read.specs.declared.PieceLine.{PieceLine}
use Rattle.record_read.specs.Line.{limit, no_value, kept_values, gathered_values, held_line, end_of, piece_at}
use Rattle.record_read.proofs.ValuesLaws.{slots_numbers}

-- ---- one or more values, from as many as stand there

shorter : (b : Bytes) (a : ℤ) (r : Bytes) → value.read b ≡ got a r → length r < length b
shorter = shrinks value_exact value-long

none_first : (b r : Bytes) → (many value).read b ≡ got [] r → value.read b ≡ broken
unfolding many
none_first b r e = go (value.read b) refl
  where
    go : (x : Reading ℤ) → value.read b ≡ x → value.read b ≡ broken
    go (got v s) p = giving_inv (◌∷◌ v) ((many value).read s) [] r (sym (many_more value.read shorter b v s p) ∙ e) (λ m k q. let z : ◌≡◌ {A = ℕ} 0 1 = cc in absurd (omega arith))
    go broken p = p

some_first : {X : Type 0} (b : Bytes) (v : ℤ) (vs : List ℤ) (r : Bytes) → (many value).read b ≡ got (v ∷ vs) r → ((s : Bytes) → value.read b ≡ got v s → (many value).read s ≡ got vs r → X) → X
unfolding many
some_first {X = X} b v vs r e f = go (value.read b) refl
  where
    go : (x : Reading ℤ) → value.read b ≡ x → X
    go (got w s) p = giving_inv (◌∷◌ w) ((many value).read s) (v ∷ vs) r (sym (many_more value.read shorter b w s p) ∙ e) (λ m k q.
        let a : w ≡ v = cc in
        let c : m ≡ vs = cc in
        f s (p ∙ ap (λ (x : ℤ). got x s) a) (k ∙ ap (λ (x : List ℤ). got x r) c))
    go broken p = let k : got [] b ≡ got (v ∷ vs) r = sym (many-end value.read shorter b p) ∙ e in let z : ◌≡◌ {A = ℕ} 0 1 = cc in absurd (omega arith)

module _ (b r : Bytes) where
  no_values_lem : (many value).read b ≡ got [] r → (value ⨾ many value ◂ ")").read b ≡ broken
  unfolding ◌⨾◌
  no_values_lem e = rw (none_first b r e) refl

  no_end : (vs : List ℤ) → (many value).read b ≡ got vs r → strip (bytes ")") r ≡ broken → (value ⨾ many value ◂ ")").read b ≡ broken
  unfolding ◌⨾◌ ◌◂◌
  no_end [] e h = no_values_lem e
  no_end (v ∷ vs) e h = some_first b v vs r e (λ s p q. rw (p, q, h) refl)

  all-values : (v : ℤ) (vs : List ℤ) (q : Bytes) → (many value).read b ≡ got (v ∷ vs) r → strip (bytes ")") r ≡ got tt q → (value ⨾ many value ◂ ")").read b ≡ got (v, vs) q
  unfolding ◌⨾◌ ◌◂◌
  all-values v vs q e h = some_first b v vs r e (λ s p k. rw (p, k, h) refl)

-- ---- a piece's line

-- its first word, its duration, and as many values as stand there
module _ (t b c e : Bytes) (word : got tt b ≡ strip (bytes "(piece ") t) (d : ℕ) (duration : got d c ≡ giving (min limit) (numeral_of b))
    (s : Parts Value 8) (values : got s e ≡ giving gathered_values ((many value).read c)) where
  none-there : (vs : List ℤ) → s ≡ gathered_values vs → s.count < 1 → vs ≡ []
  unfolding gathered_values
  none-there [] k h = refl
  none-there (v ∷ vs) k h = let m : s.count ≡ min 256 (length (v ∷ vs)) = ap (λ (x : Parts Value 8). x.count) k in absurd (omega arith)

  pub line_no_values : s.count < 1 → broken ≡ giving held_line ((piece_line ◂ "\n").read t)
  unfolding piece_line mapped ◌▸◌ ◌⨾◌ ◌◂◌ number
  line_no_values h =
      let k = met gathered_values ((many value).read c) values in
      rw (← word, (met (min limit) (numeral_of b) duration).is, no_values_lem c e (k.is ∙ ap (λ (x : List ℤ). got x e) (none-there k.raw k.made h))) refl

  pub line_no_end : broken ≡ strip (bytes ")") e → broken ≡ giving held_line ((piece_line ◂ "\n").read t)
  unfolding piece_line mapped ◌▸◌ ◌⨾◌ ◌◂◌ number
  line_no_end h =
      let k = met gathered_values ((many value).read c) values in
      rw (← word, (met (min limit) (numeral_of b) duration).is, no_end c e k.raw k.is (sym h)) refl

  module _ (some : 1 ≤ s.count) (f : Bytes) (end : got tt f ≡ strip (bytes ")") e) where
    -- the line up to its bracket
    pub line_no_feed : broken ≡ strip (bytes "\n") f → broken ≡ giving held_line ((piece_line ◂ "\n").read t)
    unfolding piece_line mapped ◌▸◌ ◌⨾◌ ◌◂◌ number gathered_values
    line_no_feed h = let k = met gathered_values ((many value).read c) values in go k.raw k.is k.made
      where
        go : (vs : List ℤ) → (many value).read c ≡ got vs e → s ≡ gathered_values vs → broken ≡ giving held_line ((piece_line ◂ "\n").read t)
        go [] q m = let x : s.count ≡ 0 = ap (λ (x : Parts Value 8). x.count) m in absurd (omega arith)
        go (v ∷ vs) q m = rw (← word, (met (min limit) (numeral_of b) duration).is, all-values c e v vs f q (sym end), ← h) refl

    pub line_is : (g : Bytes) → got tt g ≡ strip (bytes "\n") f → got (record { duration = d; values = s }) g ≡ giving held_line ((piece_line ◂ "\n").read t)
    unfolding piece_line mapped ◌▸◌ ◌⨾◌ ◌◂◌ number gathered_values
    line_is g h = let k = met gathered_values ((many value).read c) values in go k.raw k.is k.made
      where
        go : (vs : List ℤ) → (many value).read c ≡ got vs e → s ≡ gathered_values vs → got (record { duration = d; values = s }) g ≡ giving held_line ((piece_line ◂ "\n").read t)
        go [] q m = let x : s.count ≡ 0 = ap (λ (x : Parts Value 8). x.count) m in absurd (omega arith)
        go (v ∷ vs) q m =
            let k = met (min limit) (numeral_of b) duration in
            rw (← word, k.is, all-values c e v vs f q (sym end), ← h) (λ i. got (record { duration = k.made i; values = m i }) g)

-- ---- its piece

module _ (t : Bytes) (at : ℕ) where
  pub piece_none : broken ≡ giving held_line ((piece_line ◂ "\n").read (drop at t)) → record { duration = 0; values = replicate 8 (pos 0); next = length t } ≡ piece_at t at
  unfolding piece_at
  piece_none e = rw (unmet held_line ((piece_line ◂ "\n").read (drop at t)) e) refl

  pub piece_is : (l : PieceLine) (r : Bytes) → got l r ≡ giving held_line ((piece_line ◂ "\n").read (drop at t))
      → (xs : List ℤ) → length xs ≡ 8 → ((i : ℕ) → i < 8 → get_or xs i (pos 0) ≡ (get_or l.values.parts i no_value).0)
      → (n : ℕ) → n ≡ end_of t r → record { duration = l.duration; values = xs; next = n } ≡ piece_at t at
  unfolding piece_at
  piece_is l r e xs long each n end =
      let k = met held_line ((piece_line ◂ "\n").read (drop at t)) e in
      let values : xs ≡ kept_values (values_in k.raw) = slots_numbers l.values (values_in k.raw) (ap (λ (x : PieceLine). x.values) k.made) xs long each in
      rw k.is (λ i. record { duration = (k.made i).duration; values = values i; next = end i })
