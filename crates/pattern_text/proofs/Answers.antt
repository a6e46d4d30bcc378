-- The answer to a text is its outcome.
use Prim.Native.Nat.{◌≤◌, ◌<◌}
use mathlib.Core.Path.{◌≡◌, refl, sym, ap, subst, ◌∙◌}
use mathlib.Core.Option.{Option, none, some}
use mathlib.Core.List.{[], ◌∷◌, ◌++◌, append-nil, append_assoc}
use mathlib.Core.Bool.{Bool, true, false, cond}
use lib.Dec.{ltb}
use lib.ListN.{length}
use borrow.Author.Tests.{ltb-true, ltb-false, lt-ltb, le-ltb}
use Rattle.pattern.specs.declared.Refusal.TheVariants.{TextTooLong, BrokenForm}
use Rattle.pattern_text.specs.Bytes.{Bytes, bytes}
use Rattle.pattern_text.specs.Line.{Raw, line_of}
use Rattle.pattern_text.specs.Fault.{Doc, Step, next, stop, step_of}
use Rattle.pattern_text.specs.Text.{Answer, refused, Lines, line, rest, lines_of, meant, onward, read_lines, read_of}
use Rattle.pattern_text.specs.Claims.{Says, nothing, onemore, Outcome, long, faulty, unended, whole, AnswersExact}
use Rattle.pattern_text.proofs.LineLaws.{form, line_flat}
use Rattle.pattern_text.proofs.Cut.{cut, uncut, AllFlat, all-flat, joined, joined_lines}

-- ---- an outcome is the answer

-- lines without a fault are passed over
read_prefix : {u : Bytes} {s : Option Doc} → Says u s → (w : Bytes) → read_lines none (lines_of (u ++ w)) ≡ read_lines s (lines_of w)
unfolding read_lines
read_prefix nothing w = refl
read_prefix (onemore {t = t} {s = s} b l h p q) w =
    rw (append_assoc t (b ++ bytes "\n") w)
    (read_prefix h (b ++ bytes "\n" ++ w) ∙ rw (cut b w (rw ((form b l).0 p) (line_flat l)), p, q) refl)

-- over the limit of bytes, and within it
pub over : (t : Bytes) → 8_192 < length t → read_of t ≡ refused TextTooLong
unfolding read_of
over t h = ap (λ (b : Bool). cond b (refused TextTooLong) (read_lines none (lines_of t))) (lt-ltb 8_192 (length t) h)

within : (t : Bytes) → length t ≤ 8_192 → read_of t ≡ read_lines none (lines_of t)
unfolding read_of
within t h = ap (λ (b : Bool). cond b (refused TextTooLong) (read_lines none (lines_of t))) (le-ltb 8_192 (length t) h)

answer : (t : Bytes) (a : Answer) → Outcome t a → read_of t ≡ a
unfolding read_lines lines_of
answer t a (long h) = over t h
answer t a (faulty s u b r m h f e q) = within t m ∙ rw e (read_prefix h (b ++ bytes "\n" ++ r) ∙ rw (cut b r f, q) refl)
answer t a (unended s u c b m h f e) = within t m ∙ rw e (read_prefix h (c ∷ b) ∙ rw (uncut (c ∷ b) f) refl)
answer t a (whole s m h) = within t m ∙ ap (λ (x : Bytes). read_lines none (lines_of x)) (sym (append-nil t)) ∙ read_prefix h []

-- ---- the answer is an outcome

outcome : (ls : Lines) (s : Option Doc) (u : Bytes) → Says u s → AllFlat ls → length (u ++ joined ls) ≤ 8_192 → Outcome (u ++ joined ls) (read_lines s ls)
unfolding read_lines joined AllFlat
outcome (rest []) s u h f m = whole s m (rw (append-nil u) h)
outcome (rest (c ∷ b)) s u h f m = unended s u c b m h f refl
outcome (line b ls) s u h f m = said (λ d. outcome ls (some d)) (line_of b) refl
  where
    here : Bytes
    here = u ++ (b ++ bytes "\n" ++ joined ls)

    After : Type 0
    After = (d : Doc) (u : Bytes) → Says u (some d) → AllFlat ls → length (u ++ joined ls) ≤ 8_192 → Outcome (u ++ joined ls) (read_lines (some d) ls)

    stepping : After → (l : Raw) → line_of b ≡ some l → (o : Step) → step_of s l ≡ o → Outcome here (onward o (λ d. read_lines (some d) ls))
    stepping ih l q (next d) r =
        let a = append_assoc u (b ++ bytes "\n") (joined ls) in
        subst (λ (x : Bytes). Outcome x (read_lines (some d) ls)) a (ih d (u ++ (b ++ bytes "\n")) (onemore b l h q r) f.1 (subst (λ (x : Bytes). length x ≤ 8_192) (sym a) m))
    stepping ih l q (stop x) r = faulty {f = x} s u b (joined ls) m h f.0 refl (rw (q, r) refl)

    said : After → (o : Option Raw) → line_of b ≡ o → Outcome here (onward (meant s o) (λ d. read_lines (some d) ls))
    said ih none q = faulty {f = BrokenForm} s u b (joined ls) m h f.0 refl (rw q refl)
    said ih (some l) q = stepping ih l q (step_of s l) refl

pub answers_exact : AnswersExact
unfolding read_of
answers_exact t a = (λ e. subst (Outcome t) e (to (ltb 8_192 (length t)) refl), answer t a)
  where
    to : (b : Bool) → ltb 8_192 (length t) ≡ b → Outcome t (cond b (refused TextTooLong) (read_lines none (lines_of t)))
    to true h = long (ltb-true 8_192 (length t) h)
    to false h =
        let j = joined_lines t in
        subst (λ (x : Bytes). Outcome x (read_lines none (lines_of t))) j (outcome (lines_of t) none [] nothing (all-flat t) (rw j (ltb-false 8_192 (length t) h)))
