-- The claims, proved.
use Prim.Native.Nat.{ℕ, ◌≤◌}
use mathlib.Core.Path.{◌≡◌, refl, sym, ap, subst, ◌∙◌}
use mathlib.Core.Logic.{◌⊎◌, inl, inr}
use mathlib.Core.Bool.{Bool, cond}
use mathlib.Core.Option.{Option, none, some}
use mathlib.Core.List.{List, [], ◌∷◌}
use native.Mathlib.Omega.{arith}
use lib.Dec.{eqb, ltb}
use lib.ListN.{length}
use lib.Seq.{take_at, drop_at}
use borrow.Author.Tests.{ltb-true, ltb-false, lt-ltb, le-ltb, eqb-true}
use Rattle.pattern.specs.declared.Refusal.{Refusal}
use Rattle.pattern.specs.declared.Refusal.TheVariants.{TextTooLong, BrokenForm, BrokenRecord}
use Rattle.pattern.specs.Refusal.{number_of}
use Rattle.pattern_text.specs.Bytes.{Bytes}
use Rattle.pattern_text.proofs.Tools.{both, by-test}
use Rattle.record.specs.Record.{pieces_of}
use Rattle.record_text.specs.Piece.{RawPiece, values_in}
use Rattle.record_text.specs.Text.{render_record, read_record, durations_of, values_of, counts_fit, pieces_sound, pieces_refusal, record_refusal}
use Rattle.record_text.specs.Claims.{RecordsExact, Outcome, long, formless, unsound, sound, RefusalsExact, RefusalNumbers, piece_of, LinesArePieces}
use Rattle.record_text.proofs.LineLaws.{records}

pub records_exact : RecordsExact
records_exact = records

-- ---- the answer to every text

none-some {ℓ} : {X : Type ℓ} {A : Type 0} {a : A} → none ≡ some a → X
none-some e = let z : ◌≡◌ {A = ℕ} 0 1 = cc in absurd (omega arith)

-- what a text is read as that is the text of no pieces
formless_read : (t : Bytes) → ((rs : List RawPiece) → t ≡ render_record rs → ⊥) → read_record t ≡ none
formless_read t h = go (read_record t) refl
  where
    go : (o : Option (List RawPiece)) → read_record t ≡ o → read_record t ≡ none
    go none e = e
    go (some rs) e = absurd (h rs ((records t rs).0 e))

module _ (channels : ℕ) (t : Bytes) where
  refusal : (o : Option Refusal) → Outcome channels t o → record_refusal channels t ≡ o
  unfolding record_refusal
  refusal o (long h) = ap (λ (b : Bool). cond b (some TextTooLong) (pieces_refusal channels (read_record t))) (lt-ltb 16_384 (length t) h)
  refusal o (formless m h) = rw (le-ltb 16_384 (length t) m, formless_read t h) refl
  refusal o (unsound rs m e h) = rw (le-ltb 16_384 (length t) m, (records t rs).1 e, h) refl
  refusal o (sound rs m e h) = rw (le-ltb 16_384 (length t) m, (records t rs).1 e, h) refl

  judged : length t ≤ 16_384 → (o : Option (List RawPiece)) → read_record t ≡ o → Outcome channels t (pieces_refusal channels o)
  judged m none e = formless m (λ rs p. none-some (sym e ∙ (records t rs).1 p))
  judged m (some rs) e = by-test (pieces_sound channels rs)
      (λ h. rw h (sound rs m ((records t rs).0 e) h))
      (λ h. rw h (unsound rs m ((records t rs).0 e) h))

  outcome : Outcome channels t (record_refusal channels t)
  unfolding record_refusal
  outcome = by-test (ltb 16_384 (length t))
      (λ h. rw h (long (ltb-true 16_384 (length t) h)))
      (λ h. rw h (judged (ltb-false 16_384 (length t) h) (read_record t) refl))

pub refusals_exact : RefusalsExact
refusals_exact channels t o = (λ e. subst (Outcome channels t) e (outcome channels t), refusal channels t o)

-- ---- the numbers

abbrev Number : Refusal → Type 0
Number r = (number_of r ≡ 1) ⊎ (number_of r ≡ 2) ⊎ (number_of r ≡ 8)

pub refusal_numbers : RefusalNumbers
refusal_numbers channels t r e = go (some r) ((refusals_exact channels t (some r)).0 e) refl
  where
    same : (q : Refusal) → some q ≡ some r → Number q → Number r
    same q e h = let k : q ≡ r = cc in rw (← k) h

    go : (o : Option Refusal) → Outcome channels t o → o ≡ some r → Number r
    go o (long h) e = same TextTooLong e (inl refl)
    go o (formless m h) e = same BrokenForm e (inr (inl refl))
    go o (unsound rs m p h) e = same BrokenRecord e (inr (inr refl))
    go o (sound rs m p h) e = none-some e

-- ---- lines are pieces

pub lines_are_pieces : LinesArePieces
unfolding durations_of values_of pieces_of counts_fit
lines_are_pieces n [] h = refl
lines_are_pieces n (r ∷ rs) h =
    let k = both (eqb (length (values_in r)) n) (counts_fit n rs) h in
    let l = eqb-true (length (values_in r)) n k.0 in
    rw (take_at (values_in r) (values_of rs) n l, drop_at (values_in r) (values_of rs) n l)
    (ap (◌∷◌ (piece_of r)) (lines_are_pieces n rs k.1))
