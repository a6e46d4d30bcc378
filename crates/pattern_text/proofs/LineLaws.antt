-- Lines are read as they are written.
use Prim.Native.Nat.{ℕ, ◌<◌}
use mathlib.Core.Path.{◌≡◌, refl, ◌∙◌}
use mathlib.Core.Logic.{◌↔◌, ◌⊎◌, inl, inr}
use mathlib.Core.List.{List, [], ◌∷◌, ◌++◌, append-nil}
use mathlib.Core.Option.{some}
use native.Mathlib.Omega.{arith}
use lib.ListN.{length}
use lib.IntN.{ℤ}
use Rattle.pattern.specs.declared.Sign.{Sign}
use Rattle.pattern.specs.declared.Sign.TheVariants.{Less, AtMost, More, AtLeast}
use Rattle.pattern.specs.declared.Kind.{Kind}
use Rattle.pattern.specs.declared.Kind.TheVariants.{Start, Plain, End, Both}
use Rattle.weighting.specs.declared.Weighing.{Weighing}
use Rattle.weighting.specs.declared.Weighing.TheVariants.{Margin, Sum}
use Rattle.pattern.specs.declared.Guard.{Guard}
use Rattle.pattern_text.specs.Bytes.{Bytes, Flat, bytes, Reading, got, broken}
use Rattle.pattern_text.specs.Form.{giving, or_else, strip, ◌▸◌, ◌◂◌, ◌⨾◌, first_of, one_of, either, write_many, many, mapped, number}
use Rattle.pattern_text.specs.Line.{weighing, PlaceLine, kind, EdgeLine, resets, Raw, RawTest, side, inside, sign_word, kind_word, weighing_word, sign, side_test, band_test, of_parts, parts_of, test, guard, bracket, write_resets, header_line, place_line, edge_line, render_line, read_line, whole, line_of, header, place, edge}
use Rattle.pattern_text.proofs.FormLaws.{Exact, Any, NoDigit, giving_inv, or_inv, ▸-exact, ◂-exact, ⨾-exact, mapped_exact, one_of_exact, either_exact, many_exact, number_exact, integer_exact}

-- ---- each is exact

pub sign_exact : Exact sign Any
unfolding sign first_of strip sign_word
sign_exact = one_of_exact sign_word (Less ∷ AtMost ∷ More ∷ AtLeast ∷ []) go flat
  where
    flat : (a : Sign) → Flat (bytes (sign_word a))
    flat Less = refl
    flat AtMost = refl
    flat More = refl
    flat AtLeast = refl

    go : (a : Sign) (r : Bytes) → first_of sign_word (Less ∷ AtMost ∷ More ∷ AtLeast ∷ []) (bytes (sign_word a) ++ r) ≡ got a r
    go Less r = refl
    go AtMost r = refl
    go More r = refl
    go AtLeast r = refl

pub kind_exact : Exact kind Any
unfolding kind first_of strip kind_word
kind_exact = one_of_exact kind_word (Start ∷ Plain ∷ End ∷ Both ∷ []) go flat
  where
    flat : (a : Kind) → Flat (bytes (kind_word a))
    flat Start = refl
    flat Plain = refl
    flat End = refl
    flat Both = refl

    go : (a : Kind) (r : Bytes) → first_of kind_word (Start ∷ Plain ∷ End ∷ Both ∷ []) (bytes (kind_word a) ++ r) ≡ got a r
    go Start r = refl
    go Plain r = refl
    go End r = refl
    go Both r = refl

pub weighing_exact : Exact weighing Any
unfolding weighing first_of strip weighing_word
weighing_exact = one_of_exact weighing_word (Margin ∷ Sum ∷ []) go flat
  where
    flat : (a : Weighing) → Flat (bytes (weighing_word a))
    flat Margin = refl
    flat Sum = refl

    go : (a : Weighing) (r : Bytes) → first_of weighing_word (Margin ∷ Sum ∷ []) (bytes (weighing_word a) ++ r) ≡ got a r
    go Margin r = refl
    go Sum r = refl

pub side_exact : Exact side_test Any
unfolding side_test
side_exact = ⨾-exact sign_exact (⨾-exact (◂-exact " " number_exact refl (λ r. refl)) (◂-exact ")" integer_exact refl (λ r. refl)) (λ b r h. tt)) (λ b r h. tt)

band_exact : Exact band_test Any
unfolding band_test
band_exact = ⨾-exact (▸-exact " (in " refl (◂-exact " " number_exact refl (λ r. refl)))
    (⨾-exact (◂-exact " " integer_exact refl (λ r. refl)) (◂-exact ")" integer_exact refl (λ r. refl)) (λ b r h. tt)) (λ b r h. tt)

-- a band begins with no sign
no_side : (b : ℕ × (ℤ × ℤ)) (r : Bytes) → side_test.read (band_test.write b ++ r) ≡ broken
unfolding side_test band_test ◌▸◌ ◌⨾◌ sign one_of first_of strip sign_word
no_side b r = refl

in_parts : (a : (Sign × (ℕ × ℤ)) ⊎ (ℕ × (ℤ × ℤ))) → parts_of (of_parts a) ≡ a
in_parts (inl a) = refl
in_parts (inr b) = refl

parts_in : (t : RawTest) → of_parts (parts_of t) ≡ t
parts_in (side s c b) = refl
parts_in (inside c l h) = refl

pub test_exact : Exact test Any
unfolding test
test_exact = mapped_exact of_parts parts_of (either_exact side_exact band_exact no_side) in_parts parts_in

pub guard_exact : Exact guard Any
unfolding guard
guard_exact = mapped_exact _ _ (⨾-exact sign_exact (⨾-exact (◂-exact " " number_exact refl (λ r. refl)) (◂-exact ")" number_exact refl (λ r. refl)) (λ b r h. tt)) (λ b r h. tt)) (λ t. refl) (λ t. refl)

pub spaced : Exact (" " ▸ number) NoDigit
spaced = ▸-exact " " refl number_exact

pub bracket_exact : Exact bracket Any
unfolding bracket ◌▸◌ ◌◂◌ many write_many strip
bracket_exact = ⨾-exact (▸-exact " (reset " refl number_exact)
    (◂-exact ")" (many_exact spaced (λ a r. refl) (λ a. omega arith)) refl (λ r. (refl, refl)))
    ends
  where
    ends : (cs : List ℕ) (r : Bytes) → Any r → NoDigit ((many (" " ▸ number) ◂ ")").write cs ++ r)
    ends [] r h = refl
    ends (c ∷ cs) r h = refl

pub NoBracket : Bytes → Type 0
NoBracket r = bracket.read r ≡ broken

pub resets_exact : Exact resets NoBracket
unfolding resets write_resets NoBracket
resets_exact = record {
  sound = λ b cs r e. or_inv (giving (λ c. c.0 ∷ c.1) (bracket.read b)) (got [] b) cs r e
      (λ d. giving_inv (λ c. c.0 ∷ c.1) (bracket.read b) cs r d (λ c t v. bracket_exact.sound b c r t ∙ rw (← v)))
      (λ d. let v : [] ≡ cs = cc in let w : b ≡ r = cc in rw (← v) w);
  complete = complete;
  flat = flat;
}
  where
    flat : (cs : List ℕ) → Flat (write_resets cs)
    flat [] = refl
    flat (c ∷ cs) = bracket_exact.flat (c, cs)

    complete : (cs : List ℕ) (r : Bytes) → bracket.read r ≡ broken → or_else (giving (λ c. c.0 ∷ c.1) (bracket.read (write_resets cs ++ r))) (got [] (write_resets cs ++ r)) ≡ got cs r
    complete [] r h = rw h
    complete (c ∷ cs) r h = rw (bracket_exact.complete (c, cs) r tt)

pub header_exact : Exact header_line Any
unfolding header_line
header_exact =
    let n = ◂-exact " " number_exact refl (λ r. refl) in
    mapped_exact _ _ (⨾-exact (▸-exact "(pattern " refl weighing_exact) (⨾-exact n (⨾-exact n (⨾-exact n (◂-exact ")" number_exact refl (λ r. refl)) (λ b r h. tt)) (λ b r h. tt)) (λ b r h. tt)) (λ b r h. tt)) (λ h. refl) (λ h. refl)

pub sign-long : (s : Sign) (b : Bytes) → 0 < length (bytes (sign_word s) ++ b)
unfolding sign_word
sign-long Less b = omega arith
sign-long AtMost b = omega arith
sign-long More b = omega arith
sign-long AtLeast b = omega arith

pub test-long : (t : RawTest) → 0 < length (test.write t)
unfolding test mapped either side_test band_test ◌▸◌ ◌⨾◌ sign one_of
test-long (side s c b) = sign-long s _
test-long (inside c l h) = omega arith

pub guard-long : (g : Guard) → 0 < length (guard.write g)
unfolding guard mapped ◌⨾◌ sign one_of
guard-long g = sign-long g.sign _

-- a bracket that closes is no test
no_test_lem : (r : Bytes) → test.read (bytes ")" ++ r) ≡ broken
unfolding test mapped either side_test band_test ◌▸◌ ◌⨾◌ sign one_of first_of strip sign_word
no_test_lem r = refl

pub place_exact : Exact place_line Any
unfolding place_line
place_exact = mapped_exact _ _ (⨾-exact (▸-exact "(place " refl kind_exact)
    (◂-exact ")" (many_exact test_exact (λ a r. tt) test-long) refl (λ r. (tt, no_test_lem r))) (λ b r h. tt)) (λ l. refl) (λ l. refl)

-- what follows the guards is no guard
no_guard_lem : (cs : List ℕ) (r : Bytes) → guard.read ((resets ◂ ")").write cs ++ r) ≡ broken
unfolding guard mapped ◌⨾◌ sign one_of first_of strip sign_word resets write_resets bracket ◌▸◌ ◌◂◌
no_guard_lem [] r = refl
no_guard_lem (c ∷ cs) r = refl

no_bracket : (r : Bytes) → NoBracket (bytes ")" ++ r)
unfolding NoBracket bracket ◌⨾◌ ◌▸◌ strip
no_bracket r = refl

-- what follows the edge's number is no digit
no_digit : (b : List Guard × List ℕ) (r : Bytes) → NoDigit ((many guard ⨾ resets ◂ ")").write b ++ r)
unfolding guard mapped ◌⨾◌ sign one_of sign_word resets write_resets bracket ◌▸◌ ◌◂◌ many write_many
no_digit b r = go b.0 b.1
  where
    at : (s : Sign) (x y z : Bytes) → NoDigit ((((bytes (sign_word s) ++ x) ++ y) ++ z) ++ r)
    at Less x y z = refl
    at AtMost x y z = refl
    at More x y z = refl
    at AtLeast x y z = refl

    go : (gs : List Guard) (cs : List ℕ) → NoDigit ((many guard ⨾ resets ◂ ")").write (gs, cs) ++ r)
    go [] [] = refl
    go [] (c ∷ cs) = refl
    go (g ∷ gs) cs = at g.sign _ _ _

pub edge_exact : Exact edge_line Any
unfolding edge_line
edge_exact = mapped_exact _ _ (⨾-exact (▸-exact "(edge " refl (◂-exact " " number_exact refl (λ r. refl)))
    (⨾-exact number_exact
    (⨾-exact (many_exact guard_exact (λ a r. tt) guard-long) (◂-exact ")" resets_exact refl no_bracket) (λ cs r h. (tt, no_guard_lem cs r)))
    (λ b r h. no_digit b r))
    (λ b r h. tt)) (λ e. refl) (λ e. refl)

-- ---- the theorem

pub line_sound_lem : (b : Bytes) (l : Raw) (r : Bytes) → read_line b ≡ got l r → b ≡ render_line l ++ r
unfolding read_line render_line
line_sound_lem b l r e =
    or_inv (giving header (header_line.read b)) (or_else (giving place (place_line.read b)) (giving edge (edge_line.read b))) l r e
    (λ d. giving_inv header (header_line.read b) l r d (λ h t v. header_exact.sound b h r t ∙ rw (← v)))
    (λ d. or_inv (giving place (place_line.read b)) (giving edge (edge_line.read b)) l r d
    (λ d. giving_inv place (place_line.read b) l r d (λ h t v. place_exact.sound b h r t ∙ rw (← v)))
    (λ d. giving_inv edge (edge_line.read b) l r d (λ h t v. edge_exact.sound b h r t ∙ rw (← v))))

pub no_header_place : (h : PlaceLine) (r : Bytes) → header_line.read (place_line.write h ++ r) ≡ broken
unfolding header_line place_line mapped ◌⨾◌ ◌▸◌ strip
no_header_place h r = refl

pub no_header_edge : (h : EdgeLine) (r : Bytes) → header_line.read (edge_line.write h ++ r) ≡ broken
unfolding header_line edge_line mapped ◌⨾◌ ◌▸◌ strip
no_header_edge h r = refl

no_place-edge : (h : EdgeLine) (r : Bytes) → place_line.read (edge_line.write h ++ r) ≡ broken
unfolding place_line edge_line mapped ◌⨾◌ ◌▸◌ strip
no_place-edge h r = refl

pub line_complete : (l : Raw) (r : Bytes) → read_line (render_line l ++ r) ≡ got l r
unfolding read_line render_line
line_complete (header h) r = rw (header_exact.complete h r tt)
line_complete (place h) r = rw (no_header_place h r, place_exact.complete h r tt)
line_complete (edge h) r = rw (no_header_edge h r, no_place-edge h r, edge_exact.complete h r tt)

pub whole_inv : {A : Type 0} (x : Reading A) (a : A) → whole x ≡ some a → x ≡ got a []
whole_inv (got c []) a e = let v : c ≡ a = cc in rw v
whole_inv (got c (d ∷ r)) a e = let z : ◌≡◌ {A = ℕ} 0 1 = cc in absurd (omega arith)
whole_inv broken a e = let z : ◌≡◌ {A = ℕ} 0 1 = cc in absurd (omega arith)

pub line_flat : (l : Raw) → Flat (render_line l)
unfolding render_line
line_flat (header h) = header_exact.flat h
line_flat (place h) = place_exact.flat h
line_flat (edge h) = edge_exact.flat h

-- A line says l exactly if it is l's text.
pub form : (b : Bytes) (l : Raw) → (line_of b ≡ some l) ↔ (b ≡ render_line l)
unfolding line_of
form b l = (
  λ e. line_sound_lem b l [] (whole_inv (read_line b) l e) ∙ append-nil (render_line l),
  λ e. rw (e, ← append-nil (render_line l), line_complete l []) refl,
)
