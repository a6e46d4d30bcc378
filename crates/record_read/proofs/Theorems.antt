-- The claims, proved.
use Prim.Native.Nat.{ℕ, ◌+◌, ◌≤◌, ◌<◌, min}
use native.Mathlib.Omega.{arith}
use mathlib.Core.Path.{◌≡◌, refl, sym, ap, ap₂, ◌∙◌}
use mathlib.Core.List.{List, [], ◌∷◌, ◌++◌, map}
use mathlib.Core.Option.{Option, none, some}
use mathlib.Core.Bool.{Bool, true}
use lib.Dec.{eqb}
use lib.ListN.{length, take, drop, length-append, length-drop}
use lib.Seq.{take_all, drop-append_seam}
use lib.IntN.{ℤ, pos}
use borrow.Author.Tests.{eqb-true}
use Rattle.pattern.specs.declared.Refusal.{Refusal}
use Rattle.pattern.specs.Slots.{all}
use Rattle.pattern.proofs.SlotLaws.{all_append}
use Rattle.pattern_text.specs.Bytes.{Bytes, Reading, got, broken}
use Rattle.pattern_text.specs.Form.{◌◂◌, write_many, many}
use Rattle.pattern_text.specs.Text.{pad}
use Rattle.pattern_text.proofs.Tools.{both}
use Rattle.text_scan.specs.Scan.{held_integer}
use Rattle.record.specs.Record.{total, value_in_range, record_sound}
use Rattle.record.proofs.RecordLaws.{parts}
use Rattle.record_text.specs.Piece.{RawPiece, values_in, piece_line}
use Rattle.record_text.specs.Text.{record_form, render_record, read_record, durations_of, values_of, counts_fit, pieces_sound, record_refusal}
use Rattle.record_text.specs.Claims.{Outcome, long, formless, unsound, sound}
use Rattle.record_text.proofs.LineLaws.{ended-faithful, records, render_append, render_long}
use Rattle.record_text.proofs.Theorems.{refusals_exact}
use Rattle.line_lists.proofs.Held.{held-is}
use Rattle.record_read.specs.Line.{limit, end_of, kept_values, piece_in, piece_at}
use Rattle.record_read.specs.Claims.{PiecesRead, PiecesEnd, PiecesLeft}
use Rattle.record_read.proofs.Walking.{line_shorter}

-- ---- a walk ends

pub pieces_end : PiecesEnd
unfolding piece_at
pieces_end t at h = go ((piece_line ◂ "\n").read (drop at t)) refl
  where
    go : (x : Reading RawPiece) → (piece_line ◂ "\n").read (drop at t) ≡ x → (at < (piece_in t x).next) × ((piece_in t x).next ≤ length t)
    go (got p r) e = (omega (arith, line_shorter (drop at t) p r e, length-drop at t), omega arith)
    go broken e = (h, omega arith)

pub pieces_left : PiecesLeft
unfolding render_record record_form many write_many
pieces_left t before after e = (λ h. there after refl h, λ h. omega (arith, size, render_long after))
  where
    size : length t ≡ length (render_record before) + length (render_record after)
    size = ap length ((records t (before ++ after)).0 e ∙ render_append before after) ∙ length-append (render_record before) (render_record after)

    there : (rs : List RawPiece) → after ≡ rs → length (render_record before) < length t → 0 < length after
    there [] p h = let k : length (render_record after) ≡ 0 = ap (λ rs. length (render_record rs)) p in absurd (omega (arith, size))
    there (r ∷ rs) p h = rw p (omega arith)

-- ---- a piece among others

-- what all pieces have, each has
all_member : {A : Type 0} (f : A → Bool) (xs : List A) (x : A) (ys : List A) → all f (xs ++ x ∷ ys) ≡ true → f x ≡ true
all_member f [] x ys h = (both (f x) (all f ys) h).0
all_member f (y ∷ xs) x ys h = all_member f xs x ys (both (f y) (all f (xs ++ x ∷ ys)) h).1

-- a duration is no more than the total
duration-small : (before : List RawPiece) (r : RawPiece) (after : List RawPiece) → r.duration ≤ total (durations_of (before ++ r ∷ after))
unfolding durations_of total
duration-small [] r after = omega arith
duration-small (b ∷ before) r after = omega (arith, duration-small before r after)

held_same : (vs : List ℤ) → all value_in_range vs ≡ true → map held_integer vs ≡ vs
held_same [] h = refl
held_same (v ∷ vs) h = let k = both (value_in_range v) (all value_in_range vs) h in ap₂ ◌∷◌ (held-is v k.0) (held_same vs k.1)

values-inside : (before : List RawPiece) (r : RawPiece) (after : List RawPiece) → all value_in_range (values_of (before ++ r ∷ after)) ≡ true → all value_in_range (values_in r) ≡ true
unfolding values_of
values-inside [] r after h = (both (all value_in_range (values_in r)) (all value_in_range (values_of after)) (sym (all_append value_in_range (values_in r) (values_of after)) ∙ h)).0
values-inside (b ∷ before) r after h =
    let rest = values_of (before ++ r ∷ after) in
    values-inside before r after (both (all value_in_range (values_in b)) (all value_in_range rest) (sym (all_append value_in_range (values_in b) rest) ∙ h)).1

-- ---- the theorem

-- what a text says that is not refused keeps the rules
accepted : (channels : ℕ) (t : Bytes) (rs : List RawPiece) → read_record t ≡ some rs → record_refusal channels t ≡ none → pieces_sound channels rs ≡ true
accepted channels t rs e h = go none ((refusals_exact channels t none).0 h) refl
  where
    refused : {X : Type 0} {r : Refusal} → some r ≡ none → X
    refused q = let z : ◌≡◌ {A = ℕ} 0 1 = cc in absurd (omega arith)

    go : (o : Option Refusal) → Outcome channels t o → o ≡ none → pieces_sound channels rs ≡ true
    go o (long m) q = refused q
    go o (formless m f) q = refused q
    go o (unsound qs m p k) q = refused q
    go o (sound qs m p k) q = let i : some qs ≡ some rs = sym ((records t qs).1 p) ∙ e in let j : qs ≡ rs = cc in rw (← j) k

pub pieces_read : PiecesRead
unfolding piece_at render_record record_form many write_many pieces_sound counts_fit
pieces_read channels t before r after few e h =
    let rs = before ++ r ∷ after in
    let line = (piece_line ◂ "\n").write r in
    let at = length (render_record before) in
    let text : t ≡ render_record before ++ (line ++ render_record after) = (records t rs).0 e ∙ render_append before (r ∷ after) in
    let here : drop at t ≡ line ++ render_record after = ap (drop at) text ∙ drop-append_seam (render_record before) (line ++ render_record after) in
    let read : (piece_line ◂ "\n").read (drop at t) ≡ got r (render_record after) = ap (piece_line ◂ "\n").read here ∙ ended-faithful.complete r (render_record after) tt in
    let next : end_of t (render_record after) ≡ length (render_record (before ++ (r ∷ []))) =
    omega (arith, ap length text, length-append (render_record before) (line ++ render_record after), length-append line (render_record after), ap length (render_append before (r ∷ [])), length-append (render_record before) (line ++ []), length-append line []) in
    let k = both (counts_fit channels rs) (record_sound channels (durations_of rs) (values_of rs)) (accepted channels t rs e h) in
    let p = parts channels (durations_of rs) (values_of rs) k.1 in
    let short : total (durations_of rs) ≤ 2_147_483_647 = p.short in
    let duration : min limit r.duration ≡ r.duration = omega (arith, duration-small before r after) in
    let count : length (values_in r) ≡ channels = eqb-true (length (values_in r)) channels (all_member (λ r. eqb (length (values_in r)) channels) before r after k.0) in
    let values : kept_values (values_in r) ≡ pad 8 (pos 0) (values_in r) =
    ap (λ vs. pad 8 (pos 0) (take 8 vs)) (held_same (values_in r) (values-inside before r after p.values)) ∙ ap (pad 8 (pos 0)) (take_all 8 (values_in r) (omega arith)) in
    rw read (λ i. record { duration = duration i; values = values i; next = next i })
