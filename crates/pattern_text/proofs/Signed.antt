-- A line without a band is read by document 01's reader as it is now, and a line with one by none; so it is with texts.
use Prim.Native.Nat.{ℕ, ◌<◌}
use native.Mathlib.Omega.{arith}
use mathlib.Core.Path.{◌≡◌, refl, sym, ap, ◌∙◌}
use mathlib.Core.Logic.{◌↔◌}
use mathlib.Core.List.{List, [], ◌∷◌, ◌++◌, map, append-nil}
use mathlib.Core.Option.{Option, none, some}
use mathlib.Core.Bool.{Bool, true, false, not, cond, ◌&&◌, and-true}
use lib.Dec.{ltb}
use lib.ListN.{length, take, length-map}
use lib.IntN.{ℤ}
use Rattle.pattern.specs.declared.Sign.{Sign}
use Rattle.pattern.specs.declared.Kind.{Kind}
use Rattle.pattern.specs.declared.Refusal.{Refusal}
use Rattle.pattern.specs.declared.Refusal.TheVariants.{TextTooLong, BrokenForm}
use Rattle.pattern.specs.declared.Pattern.{Pattern}
use Rattle.pattern.specs.Slots.{all}
use Rattle.pattern.specs.Sound.{no_test, no_place}
use Rattle.pattern.specs.InUse.{tests_of}
use Rattle.pattern_text.specs.Bytes.{Bytes, bytes, broken}
use Rattle.pattern_text.specs.Form.{giving, or_else, strip, ◌▸◌, ◌◂◌, ◌⨾◌, first_of, one_of, either, write_many, many, mapped}
use Rattle.pattern_text.specs.Line.{RawTest, side, inside, test_of, PlaceLine, EdgeLine, Raw, header, place, edge, sign_word, sign, side_test, side_of, test, header_line, place_line, edge_line, render_line, whole, line_of}
use Rattle.pattern_text.specs.Fault.{Doc, Step, next, stop, unless, is_empty, with_place, with_edge, header_fault, place_fault, edge_fault, step_of}
use Rattle.pattern_text.specs.Text.{accepted, refused, Lines, line, rest, lines_of, pad, place_of, pattern_of, finish, meant, onward, read_lines, read_of}
use Rattle.pattern_text.specs.Signed.{signed_place, signed_says, signed_line, signed_lines, read_signed, all_signed, OldTextsUnchanged}
use Rattle.pattern.proofs.SlotLaws.{all-mapped, all_same, all_snoc}
use Rattle.pattern_text.proofs.Tools.{both}
use Rattle.pattern_text.proofs.FormLaws.{Exact, Any, giving_inv, or_inv, ▸-exact, ◂-exact, ⨾-exact, many_exact}
use Rattle.pattern_text.proofs.LineLaws.{kind_exact, side_exact, sign-long, header_exact, edge_exact, no_header_place, no_header_edge, whole_inv}
use Rattle.pattern_text.proofs.Slots.{take-pad}
use Rattle.pattern_text.proofs.Theorems.{lines_exact, texts_exact, declined}

-- ---- what has no band

abbrev raw_signed : RawTest → Bool
raw_signed x = not (test_of x).band

abbrev place_signed : PlaceLine → Bool
place_signed l = all raw_signed l.tests

abbrev line_signed : Raw → Bool
line_signed (header h) = true
line_signed (place l) = place_signed l
line_signed (edge e) = true

abbrev signed_so : Option Doc → Bool
signed_so none = true
signed_so (some d) = all place_signed d.places

-- ---- the line of a place

side_long : (a : Sign × (ℕ × ℤ)) → 0 < length (side_test.write a)
unfolding side_test ◌⨾◌ sign one_of
side_long (s, a) = sign-long s _

no_side : (r : Bytes) → side_test.read (bytes ")" ++ r) ≡ broken
unfolding side_test ◌⨾◌ sign one_of first_of strip sign_word
no_side r = refl

signed_exact : Exact signed_place Any
unfolding signed_place
signed_exact = ⨾-exact (▸-exact "(place " refl kind_exact) (◂-exact ")" (many_exact side_exact (λ a r. tt) side_long) refl (λ r. (tt, no_side r))) (λ b r h. tt)

many-written : (ts : List (Sign × (ℕ × ℤ))) → write_many side_test.write ts ≡ write_many test.write (map side_of ts)
unfolding write_many test mapped either
many-written [] = refl
many-written (t ∷ ts) = ap (◌++◌ (side_test.write t)) (many-written ts)

signed-written : (l : Kind × List (Sign × (ℕ × ℤ))) → signed_place.write l ≡ place_line.write (signed_says l)
unfolding signed_place place_line mapped ◌⨾◌ ◌◂◌ many
signed-written (k, ts) = rw (many-written ts)

sides_signed : (ts : List (Sign × (ℕ × ℤ))) → all raw_signed (map side_of ts) ≡ true
sides_signed [] = refl
sides_signed (t ∷ ts) = sides_signed ts

-- the sides of a place's line, which are all of it where there is no band
abbrev sides_of : List RawTest → List (Sign × (ℕ × ℤ))
sides_of [] = []
sides_of (side s c b ∷ xs) = (s, (c, b)) ∷ sides_of xs
sides_of (inside c l h ∷ xs) = sides_of xs

sides_back : (xs : List RawTest) → all raw_signed xs ≡ true → map side_of (sides_of xs) ≡ xs
sides_back [] e = refl
sides_back (side s c b ∷ xs) e = ap (◌∷◌ (side s c b)) (sides_back xs e)
sides_back (inside c l h ∷ xs) e = absurd (let z : ◌≡◌ {A = ℕ} 0 1 = cc in omega arith)

-- ---- lines

signed-sound : (b : Bytes) (l : Raw) → whole (signed_line b) ≡ some l → (line_of b ≡ some l) × (line_signed l ≡ true)
unfolding signed_line render_line
signed-sound b l e =
    or_inv (giving header (header_line.read b)) (or_else (giving (λ l. place (signed_says l)) (signed_place.read b)) (giving edge (edge_line.read b))) l [] (whole_inv (signed_line b) l e)
    (λ d. giving_inv header (header_line.read b) l [] d (λ h t v. (is (header h) v (header_exact.sound b h [] t), rw (← v))))
    (λ d. or_inv (giving (λ l. place (signed_says l)) (signed_place.read b)) (giving edge (edge_line.read b)) l [] d
    (λ d. giving_inv (λ l. place (signed_says l)) (signed_place.read b) l [] d (λ h t v. (is (place (signed_says h)) v (signed_exact.sound b h [] t ∙ rw (signed-written h)), rw (← v) (sides_signed h.1))))
    (λ d. giving_inv edge (edge_line.read b) l [] d (λ h t v. (is (edge h) v (edge_exact.sound b h [] t), rw (← v)))))
  where
    is : (m : Raw) → m ≡ l → b ≡ render_line m ++ [] → line_of b ≡ some l
    is m v h = (lines_exact b l).1 (h ∙ append-nil (render_line m) ∙ ap render_line v)

no_signed-edge : (h : EdgeLine) (r : Bytes) → signed_place.read (edge_line.write h ++ r) ≡ broken
unfolding signed_place edge_line mapped ◌⨾◌ ◌▸◌ strip
no_signed-edge h r = refl

signed-complete : (l : Raw) → line_signed l ≡ true → whole (signed_line (render_line l ++ [])) ≡ some l
unfolding signed_line render_line
signed-complete (header h) e = rw (header_exact.complete h [] tt)
signed-complete (place l) e =
    let back : signed_says (l.kind, sides_of l.tests) ≡ l = λ i. record { kind = l.kind; tests = sides_back l.tests e i } in
    let text : place_line.write l ≡ signed_place.write (l.kind, sides_of l.tests) = ap place_line.write (sym back) ∙ sym (signed-written (l.kind, sides_of l.tests)) in
    rw (no_header_place l [], text, signed_exact.complete (l.kind, sides_of l.tests) [] tt) (ap (λ (m : PlaceLine). some (place m)) back)
signed-complete (edge h) e = rw (no_header_edge h [], no_signed-edge h [], edge_exact.complete h [] tt)

-- a line is read if it is signed
abbrev keep_signed : Option Raw → Option Raw
keep_signed none = none
keep_signed (some l) = cond (line_signed l) (some l) none

line_is : (b : Bytes) → whole (signed_line b) ≡ keep_signed (line_of b)
line_is b = by (whole (signed_line b)) (line_of b) refl refl
  where
    by : (x y : Option Raw) → whole (signed_line b) ≡ x → line_of b ≡ y → x ≡ keep_signed y
    by (some l) y p q = let k = signed-sound b l p in let v : y ≡ some l = sym q ∙ k.0 in rw v (rw k.1)
    by none none p q = refl
    by none (some l) p q = not-read (line_signed l) refl
      where
        not-read : (t : Bool) → line_signed l ≡ t → none ≡ cond t (some l) none
        not-read true h =
            let v : b ≡ render_line l ++ [] = (lines_exact b l).0 q ∙ sym (append-nil (render_line l)) in
            absurd (let k : whole (signed_line b) ≡ some l = rw v (signed-complete l h) in let z : ◌≡◌ {A = ℕ} 0 1 = cc in omega arith)
        not-read false h = refl

-- ---- what was read

unless_inv : (f : Option Refusal) (d c : Doc) → unless f d ≡ next c → d ≡ c
unless_inv none d c e = cc
unless_inv (some r) d c e = absurd (let z : ◌≡◌ {A = ℕ} 0 1 = cc in omega arith)

-- a line more
step-signed : (s : Option Doc) (l : Raw) (c : Doc) → step_of s l ≡ next c → all place_signed c.places ≡ (signed_so s && line_signed l)
unfolding step_of
step-signed none (header h) c e = ap (λ d. all place_signed d.places) (sym (unless_inv (header_fault h) _ c e))
step-signed none (place l) c e = absurd (let z : ◌≡◌ {A = ℕ} 0 1 = cc in omega arith)
step-signed none (edge l) c e = absurd (let z : ◌≡◌ {A = ℕ} 0 1 = cc in omega arith)
step-signed (some d) (header h) c e = absurd (let z : ◌≡◌ {A = ℕ} 0 1 = cc in omega arith)
step-signed (some d) (place l) c e = by (is_empty d.edges) e
  where
    by : (t : Bool) → cond t (unless (place_fault d l) (with_place d l)) (stop BrokenForm) ≡ next c → all place_signed c.places ≡ (all place_signed d.places && place_signed l)
    by true e =
        ap (λ c. all place_signed c.places) (sym (unless_inv (place_fault d l) (with_place d l) c e))
        ∙ all_snoc place_signed d.places l
    by false e = absurd (let z : ◌≡◌ {A = ℕ} 0 1 = cc in omega arith)
step-signed (some d) (edge l) c e = by (is_empty d.places) e
  where
    by : (t : Bool) → cond t (stop BrokenForm) (unless (edge_fault d l) (with_edge d l)) ≡ next c → all place_signed c.places ≡ (all place_signed d.places && true)
    by true e = absurd (let z : ◌≡◌ {A = ℕ} 0 1 = cc in omega arith)
    by false e = ap (λ c. all place_signed c.places) (sym (unless_inv (edge_fault d l) (with_edge d l) c e)) ∙ sym (and-true (all place_signed d.places))

-- the pattern of what was read
pattern_signed : (d : Doc) → all_signed (pattern_of d) ≡ all place_signed d.places
unfolding all_signed pattern_of place_of
pattern_signed d =
    let ps : take (length d.places) (pad 16 no_place (map place_of d.places)) ≡ map place_of d.places = rw (← length-map d.places place_of) (take-pad 16 no_place (map place_of d.places)) in
    rw ps (all-mapped (λ l. all (λ t. not t.band) (tests_of l)) place_of d.places ∙ all_same (λ l. all (λ t. not t.band) (tests_of (place_of l))) place_signed one d.places)
  where
    one : (l : PlaceLine) → all (λ t. not t.band) (tests_of (place_of l)) ≡ place_signed l
    one l =
        let ts : take (length l.tests) (pad 4 no_test (map test_of l.tests)) ≡ map test_of l.tests = rw (← length-map l.tests test_of) (take-pad 4 no_test (map test_of l.tests)) in
        rw ts (all-mapped (λ t. not t.band) test_of l.tests)

finish-signed : (p : Pattern) (s : Option Doc) → finish s ≡ accepted p → all_signed p ≡ signed_so s
unfolding finish
finish-signed p none e = declined e
finish-signed p (some d) e = by (is_empty d.places) e
  where
    by : (t : Bool) → cond t (refused BrokenForm) (accepted (pattern_of d)) ≡ accepted p → all_signed p ≡ all place_signed d.places
    by true e = declined e
    by false e = let v : pattern_of d ≡ p = cc in rw (← v) (pattern_signed d)

-- ---- texts

-- a band that was read stays
kept : (p : Pattern) (s : Option Doc) (ls : Lines) → read_lines s ls ≡ accepted p → all_signed p ≡ true → signed_so s ≡ true
unfolding read_lines
kept p s (line b ls) e a = by (λ d h. kept p (some d) ls h a) (line_of b) e
  where
    go : ((d : Doc) → read_lines (some d) ls ≡ accepted p → all place_signed d.places ≡ true) → (l : Raw) (x : Step) → step_of s l ≡ x
        → onward x (λ d. read_lines (some d) ls) ≡ accepted p → signed_so s ≡ true
    go more l (next d) h e = (both (signed_so s) (line_signed l) (sym (step-signed s l d h) ∙ more d e)).0
    go more l (stop r) h e = declined e

    by : ((d : Doc) → read_lines (some d) ls ≡ accepted p → all place_signed d.places ≡ true) → (x : Option Raw)
        → onward (meant s x) (λ d. read_lines (some d) ls) ≡ accepted p → signed_so s ≡ true
    by more none e = declined e
    by more (some l) e = go more l (step_of s l) refl e
kept p s (rest []) e a = sym (finish-signed p s e) ∙ a
kept p s (rest (c ∷ b)) e a = declined e

same : (p : Pattern) (s : Option Doc) (ls : Lines) → signed_so s ≡ true → (signed_lines s ls ≡ accepted p) ↔ ((read_lines s ls ≡ accepted p) × (all_signed p ≡ true))
unfolding signed_lines read_lines
same p s (line b ls) h = rw (line_is b) (by (λ d. same p (some d) ls) (line_of b))
  where
    Now : Option Raw → Type 0
    Now x = onward (meant s x) (λ d. read_lines (some d) ls) ≡ accepted p

    Then : Option Raw → Type 0
    Then x = onward (meant s x) (λ d. signed_lines (some d) ls) ≡ accepted p

    More : Type 0
    More = (d : Doc) → all place_signed d.places ≡ true → (signed_lines (some d) ls ≡ accepted p) ↔ ((read_lines (some d) ls ≡ accepted p) × (all_signed p ≡ true))

    -- a line without a band goes the same way
    on : More → (l : Raw) → line_signed l ≡ true → (x : Step) → step_of s l ≡ x
        → (onward x (λ d. signed_lines (some d) ls) ≡ accepted p) ↔ ((onward x (λ d. read_lines (some d) ls) ≡ accepted p) × (all_signed p ≡ true))
    on more l q (next d) k = more d (step-signed s l d k ∙ rw (h, q))
    on more l q (stop r) k = (λ e. declined e, λ e. declined e.0)

    -- one with a band leads to no pattern without
    off : (l : Raw) → line_signed l ≡ false → (x : Step) → step_of s l ≡ x → onward x (λ d. read_lines (some d) ls) ≡ accepted p → all_signed p ≡ true → Then none
    off l q (next d) k e a = absurd (
        let u : all place_signed d.places ≡ true = kept p (some d) ls e a in
        let w : all place_signed d.places ≡ false = step-signed s l d k ∙ rw (h, q) in
        let z : ◌≡◌ {A = ℕ} 0 1 = cc in omega arith)
    off l q (stop r) k e a = declined e

    by : More → (x : Option Raw) → Then (keep_signed x) ↔ (Now x × (all_signed p ≡ true))
    by more none = (λ e. declined e, λ e. declined e.0)
    by more (some l) = split (line_signed l) refl
      where
        split : (t : Bool) → line_signed l ≡ t → Then (cond t (some l) none) ↔ (Now (some l) × (all_signed p ≡ true))
        split true q = on more l q (step_of s l) refl
        split false q = (λ e. declined e, λ e. off l q (step_of s l) refl e.0 e.1)
same p s (rest []) h = (λ e. (e, finish-signed p s e ∙ h), λ e. e.0)
same p s (rest (c ∷ b)) h = (λ e. declined e, λ e. declined e.0)

pub old_texts_unchanged : OldTextsUnchanged
unfolding read_signed read_of
old_texts_unchanged t p =
    let exact = by (ltb 8_192 (length t)) in
    (exact, λ e. sym ((texts_exact t p).0 (exact.0 e).0).1)
  where
    by : (b : Bool) → (cond b (refused TextTooLong) (signed_lines none (lines_of t)) ≡ accepted p)
        ↔ ((cond b (refused TextTooLong) (read_lines none (lines_of t)) ≡ accepted p) × (all_signed p ≡ true))
    by true = (λ e. declined e, λ e. declined e.0)
    by false = same p none (lines_of t) refl
