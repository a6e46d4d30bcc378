-- The claims, proved.
use Prim.Native.Nat.{ℕ, ◌<◌}
use mathlib.Core.Path.{◌≡◌, refl, sym, ap, ◌∙◌}
use mathlib.Core.Bool.{true, false, cond}
use mathlib.Core.List.{List, [], ◌∷◌}
use mathlib.Core.Option.{Option, none, some}
use native.Mathlib.Omega.{arith}
use lib.ListN.{length}
use Rattle.pattern.specs.declared.Refusal.{Refusal}
use Rattle.pattern.specs.declared.Refusal.TheVariants.{BrokenForm}
use Rattle.pattern.specs.declared.Pattern.{Pattern}
use Rattle.pattern.specs.Sound.{sound_of}
use Rattle.pattern_text.specs.Bytes.{Bytes}
use Rattle.pattern_text.specs.Form.{write_many}
use Rattle.pattern_text.specs.Line.{PlaceLine, Raw, render_line, line_of}
use Rattle.pattern_text.specs.Fault.{is_empty}
use Rattle.pattern_text.specs.Text.{Answer, accepted, refused, pattern_of, doc_of, finish, read_of, raws_of, ended, render_of}
use Rattle.pattern_text.specs.Claims.{NumeralsExact, LinesExact, has_form, LinesFormed, TextsExact, TextsShort, SoundMeansRead, Outcome, long, faulty, unended, whole}
use Rattle.pattern_text.proofs.NumeralLaws.{numeral}
use Rattle.pattern_text.proofs.LineLaws.{form}
use Rattle.pattern_text.proofs.Runs.{says_fits, fits_says}
use Rattle.pattern_text.proofs.Answers.{answers_exact}
use Rattle.pattern_text.proofs.Value.{sound-doc, doc-sound, doc-back}
use Rattle.pattern_text.proofs.Size.{short}

pub texts_short : TextsShort
unfolding render_of
texts_short p h = short (doc_of p) (sound-doc p h).fits

pub declined : {X : Type 0} {r : Refusal} {p : Pattern} → refused r ≡ accepted p → X
declined e = let z : ◌≡◌ {A = ℕ} 0 1 = cc in absurd (omega arith)

-- what is read has a place, fits, and is the pattern's
read-sound : (t : Bytes) (a : Answer) (p : Pattern) → Outcome t a → a ≡ accepted p → (sound_of p ≡ true) × (t ≡ render_of p)
unfolding finish render_of
read-sound t a p (long h) e = declined e
read-sound t a p (faulty s u b r m h f q k) e = declined e
read-sound t a p (unended s u c b m h f q) e = declined e
read-sound t a p (whole none m h) e = declined e
read-sound t a p (whole (some d) m h) e = go d.places refl e
  where
    go : (ls : List PlaceLine) → d.places ≡ ls → cond (is_empty ls) (refused BrokenForm) (accepted (pattern_of d)) ≡ accepted p → (sound_of p ≡ true) × (t ≡ render_of p)
    go [] q e = declined e
    go (l ∷ ls) q e =
        let w = says_fits h in
        let k : pattern_of d ≡ p = cc in
        (rw k at (doc-sound d w.fits (rw q (omega arith))), w.text ∙ ap (λ d. write_many ended (raws_of d)) (sym (doc-back d w.fits) ∙ ap doc_of k))

-- a sound pattern's text is read
read-complete : (p : Pattern) → sound_of p ≡ true → read_of (render_of p) ≡ accepted p
unfolding render_of finish
read-complete p h =
    let w = sound-doc p h in
    (answers_exact (render_of p) (finish (some (doc_of p)))).1 (whole (some (doc_of p)) (texts_short p h) (fits_says (doc_of p) w.fits w.a_place))
    ∙ rw (not-empty (doc_of p).places w.a_place) (ap accepted w.back)
  where
    not-empty : (ls : List PlaceLine) → 0 < length ls → is_empty ls ≡ false
    not-empty [] n = absurd (omega arith)
    not-empty (l ∷ ls) n = refl

pub texts_exact : TextsExact
texts_exact t p = (λ e. read-sound t (accepted p) p ((answers_exact t (accepted p)).0 e) refl, λ h. rw h.1 (read-complete p h.0))

pub sound_means_read : SoundMeansRead
sound_means_read p = (λ h. (render_of p, (texts_exact (render_of p) p).1 (h, refl)), λ r. ((texts_exact r.0 p).0 r.1).0)

-- the other claims, proved where their lemmas are
pub numerals_exact : NumeralsExact
numerals_exact = numeral

pub lines_exact : LinesExact
lines_exact = form

pub lines_formed : LinesFormed
lines_formed b = ((λ h. given (line_of b) refl h, λ x. rw ((form b x.0).1 x.1) refl), λ l m p q. let h = (form b l).1 p in let k = (form b m).1 q in cc)
  where
    given : (o : Option Raw) → line_of b ≡ o → has_form o ≡ true → (l : Raw) × (b ≡ render_line l)
    given none e h = let z : ◌≡◌ {A = ℕ} 0 1 = cc in absurd (omega arith)
    given (some l) e h = (l, (form b l).0 e)
