-- No line holds a line feed, so a text falls apart into the lines that it was made of.
use Prim.Native.Nat.{ℕ}
use mathlib.Core.Path.{◌≡◌, refl, ap, ◌∙◌}
use mathlib.Core.List.{[], ◌∷◌, ◌++◌}
use mathlib.Core.Bool.{true}
use lib.Dec.{eqb}
use borrow.Author.Tests.{eqb-true, not-true}
use Rattle.pattern.specs.Slots.{all}
use Rattle.pattern_text.specs.Bytes.{Bytes, no_feed, Flat, bytes}
use Rattle.pattern_text.specs.Line.{Raw, render_line}
use Rattle.pattern_text.specs.Text.{Lines, into, lines_of, line, rest}
use Rattle.pattern_text.proofs.Tools.{both, by-test}
use Rattle.pattern_text.proofs.LineLaws.{line_flat}

-- a line that holds no line feed is cut off where it ends
pub cut : (b t : Bytes) → Flat b → lines_of (b ++ bytes "\n" ++ t) ≡ line b (lines_of t)
unfolding lines_of
cut [] t h = refl
cut (c ∷ b) t h =
    let k = both (no_feed c) (all no_feed b) h in
    rw (not-true (eqb c 10) k.0, cut b t k.1) refl

-- the first line of a text
pub first_line : (l : Raw) (t : Bytes) → lines_of (render_line l ++ bytes "\n" ++ t) ≡ line (render_line l) (lines_of t)
first_line l t = cut (render_line l) t (line_flat l)

unfoldable pub joined : Lines → Bytes
joined (line b ls) = b ++ bytes "\n" ++ joined ls
joined (rest b) = b

into-joined : (c : ℕ) (ls : Lines) → joined (into c ls) ≡ c ∷ joined ls
unfolding joined
into-joined c (line b ls) = refl
into-joined c (rest b) = refl

pub joined_lines : (t : Bytes) → joined (lines_of t) ≡ t
unfolding joined lines_of
joined_lines [] = refl
joined_lines (c ∷ t) = by-test (eqb c 10)
    (λ h. rw h (ap (◌∷◌ 10) (joined_lines t) ∙ rw (eqb-true c 10 h)))
    (λ h. rw h (into-joined c (lines_of t) ∙ ap (◌∷◌ c) (joined_lines t)))

pub uncut : (b : Bytes) → Flat b → lines_of b ≡ rest b
unfolding lines_of
uncut [] h = refl
uncut (c ∷ b) h =
    let k = both (no_feed c) (all no_feed b) h in
    rw (not-true (eqb c 10) k.0, uncut b k.1) refl

-- no line of a text holds a line feed
unfoldable pub AllFlat : Lines → Type 0
AllFlat (line b ls) = Flat b × AllFlat ls
AllFlat (rest b) = Flat b

into-flat : (c : ℕ) (ls : Lines) → no_feed c ≡ true → AllFlat ls → AllFlat (into c ls)
unfolding AllFlat
into-flat c (line b ls) h f = (rw h f.0, f.1)
into-flat c (rest b) h f = rw h f

pub all-flat : (t : Bytes) → AllFlat (lines_of t)
unfolding AllFlat lines_of
all-flat [] = refl
all-flat (c ∷ t) = by-test (eqb c 10) (λ h. rw h (refl, all-flat t)) (λ h. rw h (into-flat c (lines_of t) (rw h refl) (all-flat t)))
