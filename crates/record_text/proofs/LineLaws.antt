-- Lines of a record text, and the whole of it, are read as they are written.
use Prim.Native.Nat.{◌*◌, ◌≤◌, ◌<◌}
use mathlib.Core.Path.{◌≡◌, refl, sym, ap, ◌∙◌}
use mathlib.Core.Logic.{◌↔◌}
use mathlib.Core.List.{List, [], ◌∷◌, ◌++◌, append-nil, append_assoc}
use mathlib.Core.Option.{some}
use native.Mathlib.Omega.{arith}
use lib.ListN.{length, length-append}
use lib.IntN.{ℤ}
use Rattle.pattern_text.specs.Bytes.{Bytes, bytes, broken}
use Rattle.pattern_text.specs.Form.{strip, ◌▸◌, ◌◂◌, ◌⨾◌, write_many, many, mapped}
use Rattle.pattern_text.proofs.FormLaws.{Exact, Faithful, Any, NoDigit, Last, ▸-exact, ◂-exact, ◂-faithful, ⨾-exact, mapped_exact, many_exact, many-faithful, number_exact, integer_exact}
use Rattle.pattern_text.proofs.LineLaws.{whole_inv}
use Rattle.record_text.specs.Piece.{RawPiece, value, piece_line}
use Rattle.record_text.specs.Text.{record_form, render_record, read_record}

-- ---- a line

pub value_exact : Exact value NoDigit
unfolding value
value_exact = ▸-exact " " refl integer_exact

pub value-long : (v : ℤ) → 0 < length (value.write v)
unfolding value ◌▸◌
value-long v = omega arith

-- what follows a duration or a value is no digit
pub value-starts : (v : ℤ) (r : Bytes) → NoDigit (value.write v ++ r)
unfolding value ◌▸◌
value-starts v r = refl

no_value : (r : Bytes) → value.read (bytes ")" ++ r) ≡ broken
unfolding value ◌▸◌ strip
no_value r = refl

values-start : (b : ℤ × List ℤ) (r : Bytes) → NoDigit ((value ⨾ many value ◂ ")").write b ++ r)
unfolding value ◌▸◌ ◌⨾◌
values-start b r = refl

further-start : (vs : List ℤ) (r : Bytes) → NoDigit ((many value ◂ ")").write vs ++ r)
unfolding value ◌▸◌ ◌◂◌ many write_many
further-start [] r = refl
further-start (v ∷ vs) r = refl

pub piece_exact : Exact piece_line Any
unfolding piece_line
piece_exact = mapped_exact _ _ (⨾-exact (▸-exact "(piece " refl number_exact)
    (⨾-exact value_exact (◂-exact ")" (many_exact value_exact value-starts value-long) refl (λ r. (refl, no_value r)))
    (λ vs r h. further-start vs r))
    (λ b r h. values-start b r)) (λ a. refl) (λ r. refl)

-- ---- a line with its line feed, and all lines

pub ended-faithful : Faithful (piece_line ◂ "\n") Any
ended-faithful = ◂-faithful "\n" piece_exact (λ r. tt)

pub ended-long : (r : RawPiece) → 7 ≤ length ((piece_line ◂ "\n").write r)
unfolding ◌◂◌ piece_line mapped ◌⨾◌ ◌▸◌
ended-long r = omega arith

pub record_faithful : Faithful record_form (Last ended-faithful)
unfolding record_form
record_faithful = many-faithful ended-faithful (λ a r. tt) (λ r. omega (arith, ended-long r))

no_line : (piece_line ◂ "\n").read [] ≡ broken
unfolding ◌◂◌ piece_line mapped ◌⨾◌ ◌▸◌ strip
no_line = refl

-- ---- the theorem

pub records : (t : Bytes) (rs : List RawPiece) → (read_record t ≡ some rs) ↔ (t ≡ render_record rs)
unfolding read_record render_record
records t rs = (
  λ e. record_faithful.sound t rs [] (whole_inv (record_form.read t) rs e) ∙ append-nil (record_form.write rs),
  λ e. rw (e, ← append-nil (record_form.write rs), record_faithful.complete rs [] (tt, no_line)) refl,
)

-- ---- how long a text is

pub render_append : (rs ss : List RawPiece) → render_record (rs ++ ss) ≡ render_record rs ++ render_record ss
unfolding render_record record_form many write_many
render_append [] ss = refl
render_append (r ∷ rs) ss = ap (◌++◌ ((piece_line ◂ "\n").write r)) (render_append rs ss) ∙ sym (append_assoc ((piece_line ◂ "\n").write r) (render_record rs) (render_record ss))

pub render_long : (rs : List RawPiece) → 7 * length rs ≤ length (render_record rs)
unfolding render_record record_form many write_many
render_long [] = omega arith
render_long (r ∷ rs) = rw (length-append ((piece_line ◂ "\n").write r) (render_record rs)) (omega (arith, ended-long r, render_long rs))
