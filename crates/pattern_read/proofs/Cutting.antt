-- A line that is read at a position, with its line feed, is the line that is cut off there; and where none can be read
-- that may stand there, the form is broken.
use Prim.Native.Nat.{◌<◌}
use native.Mathlib.Omega.{arith}
use mathlib.Core.Path.{◌≡◌, refl, sym, ap, ◌∙◌}
use mathlib.Core.List.{[], ◌∷◌, ◌++◌}
use mathlib.Core.Option.{Option, none, some}
use lib.ListN.{length, length-append}
use Rattle.pattern.specs.declared.Refusal.TheVariants.{BrokenForm}
use Rattle.pattern_text.specs.Bytes.{Bytes, bytes, got}
use Rattle.pattern_text.specs.Form.{Form, ◌◂◌}
use Rattle.pattern_text.specs.Line.{Raw, render_line, line_of}
use Rattle.pattern_text.specs.Fault.{Doc, step_of, stop}
use Rattle.pattern_text.specs.Text.{refused, Lines, line, rest, lines_of, finish, meant, onward, read_lines}
use Rattle.pattern_text.proofs.FormLaws.{Exact, Any, ◂-faithful}
use Rattle.pattern_text.proofs.LineLaws.{form}
use Rattle.pattern_text.proofs.Cut.{first_line, joined, joined_lines}

-- ---- a line with its line feed

module _ {A : Type 0} {f : Form A} (x : Exact f Any) where
  pub ended-sound : (b : Bytes) (a : A) (r : Bytes) → (f ◂ "\n").read b ≡ got a r → b ≡ (f.write a ++ bytes "\n") ++ r
  unfolding ◌◂◌
  ended-sound = (◂-faithful "\n" x (λ r. tt)).sound

  pub ended-complete : (a : A) (r : Bytes) → (f ◂ "\n").read ((f.write a ++ bytes "\n") ++ r) ≡ got a r
  unfolding ◌◂◌
  ended-complete a r = (◂-faithful "\n" x (λ r. tt)).complete a r tt

  pub ended-shorter : (b : Bytes) (a : A) (r : Bytes) → (f ◂ "\n").read b ≡ got a r → length r < length b
  ended-shorter b a r e = omega (arith, ap length (ended-sound b a r e), length-append (f.write a ++ bytes "\n") r, length-append (f.write a) (bytes "\n"))

-- ---- the line that is cut off

pub line_there : (s : Option Doc) (l : Raw) (r : Bytes) → read_lines s (lines_of ((render_line l ++ bytes "\n") ++ r)) ≡ onward (step_of s l) (λ d. read_lines (some d) (lines_of r))
unfolding read_lines
line_there s l r = rw (first_line l r, (form (render_line l) l).1 refl) refl

pub line_absent : (s : Option Doc) (b : Bytes) → (b ≡ [] → finish s ≡ refused BrokenForm) → ((l : Raw) (r : Bytes) → b ≡ (render_line l ++ bytes "\n") ++ r → step_of s l ≡ stop BrokenForm) → read_lines s (lines_of b) ≡ refused BrokenForm
unfolding read_lines joined
line_absent s b e h = go (lines_of b) refl
  where
    said : (c : Bytes) (ls : Lines) → lines_of b ≡ line c ls → (o : Option Raw) → line_of c ≡ o → onward (meant s o) (λ d. read_lines (some d) ls) ≡ refused BrokenForm
    said c ls p none q = refl
    said c ls p (some l) q = rw (h l (joined ls) (sym (joined_lines b) ∙ ap joined p ∙ ap (λ (x : Bytes). (x ++ bytes "\n") ++ joined ls) ((form c l).0 q))) refl

    go : (ls : Lines) → lines_of b ≡ ls → read_lines s ls ≡ refused BrokenForm
    go (line c ls) p = said c ls p (line_of c) refl
    go (rest []) p = e (sym (joined_lines b) ∙ ap joined p)
    go (rest (c ∷ x)) p = refl
