-- The walk from line to line stands, at every turn, where the definition's reading stands.
use Prim.Native.Nat.{ℕ, suc, ◌-◌, ◌<◌}
use native.Mathlib.Omega.{arith}
use mathlib.Core.Path.{◌≡◌, refl, sym, ap, ◌∙◌}
use mathlib.Core.List.{List, [], ◌∷◌, ◌++◌}
use mathlib.Core.Option.{Option, none, some}
use mathlib.Core.Bool.{true, false}
use lib.Dec.{ltb, eqb}
use lib.ListN.{length, drop}
use borrow.Author.Tests.{le-ltb, ne_eqb}
use Rattle.std.proofs.Common.{Result, Ok, Err}
use Rattle.pattern.specs.declared.Refusal.{Refusal}
use Rattle.pattern.specs.declared.Refusal.TheVariants.{BrokenForm, OutOfRange}
use Rattle.pattern.specs.declared.Pattern.{Pattern}
use Rattle.pattern.specs.Sound.{header_in_range}
use Rattle.pattern_text.specs.Bytes.{Bytes, bytes, Reading, got, broken}
use Rattle.pattern_text.specs.Form.{giving, ◌◂◌}
use Rattle.pattern_text.specs.Line.{Header, PlaceLine, EdgeLine, Raw, header, place, edge, render_line, header_line, place_line, edge_line}
use Rattle.pattern_text.specs.Fault.{Doc, judged, header_fault, place_fault, edge_fault, stop, unless, is_empty, with_place, with_edge, step_of}
use Rattle.pattern_text.specs.Text.{Answer, accepted, refused, lines_of, pattern_of, finish, onward, read_lines}
use Rattle.pattern_text.proofs.Tools.{by-test, never}
use Rattle.pattern_text.proofs.LineLaws.{header_exact, place_exact, edge_exact}
use Rattle.pattern_text.proofs.Runs.{Fits, step-sound}
use Rattle.text_reader.proofs.Left.{rest_is}
use Rattle.line_read.specs.Lines.{held_header, held_place, held_edge}
use Rattle.pattern_lines.specs.Turn.{Turn, on_read, verdict, header_judged, header_turn, ruled, place_from, place_judged, place_turn, put_place, edge_from, edge_judged, edge_turn, put_edge, line_turn}
use Rattle.pattern_read.proofs.Cutting.{ended-sound, ended-complete, ended-shorter, line_there, line_absent}
use Rattle.pattern_read.proofs.Filling.{headed, header_same, header_filled, place-judged, place_filled, edge-judged, edge_filled}

empty-is : {A : Type 0} (xs : List A) → is_empty xs ≡ ltb (length xs) 1
empty-is [] = refl
empty-is (x ∷ xs) = sym (le-ltb (suc (length xs)) 1 (omega arith))

none-is : {A : Type 0} (xs : List A) → eqb (length xs) 0 ≡ is_empty xs
none-is [] = refl
none-is (x ∷ xs) = ne_eqb (suc (length xs)) 0 (λ e. absurd (omega arith))

-- r is what a line left of b
pub record Rest (b r : Bytes) : Type 0 where
  pub line : Bytes
  pub cut : b ≡ line ++ r
  pub shorter : length r < length b

-- ---- the header

-- what the header's line makes of b
data Began (b : Bytes) : Result (Pattern × Bytes) Refusal → Type 0 where
  on : (d : Doc) (r : Bytes) → Fits d → read_lines none (lines_of b) ≡ read_lines (some d) (lines_of r) → Rest b r → Began b (Ok (pattern_of d, r))
  off : (x : Refusal) → read_lines none (lines_of b) ≡ refused x → Began b (Err x)

header_on : (b : Bytes) → Began b (header_turn b)
unfolding header_turn render_line step_of finish header_fault judged
header_on b = go ((header_line ◂ "\n").read b) refl
  where
    absent : (header_line ◂ "\n").read b ≡ broken → (l : Raw) (r : Bytes) → b ≡ (render_line l ++ bytes "\n") ++ r → step_of none l ≡ stop BrokenForm
    absent p (header h) r q = never (sym p ∙ ap (header_line ◂ "\n").read q ∙ ended-complete header_exact h r)
    absent p (place l) r q = refl
    absent p (edge l) r q = refl

    there : (h : Header) (r : Bytes) → (header_line ◂ "\n").read b ≡ got h r → Began b (header_judged (held_header h) r)
    there h r p =
        let sound = ended-sound header_exact b h r p in
        let answer = ap (λ (x : Bytes). read_lines none (lines_of x)) sound ∙ line_there none (header h) r in
        let fine = header_in_range h.channels h.clocks h.low h.high in
        rw (header_same h)
        (by-test fine
        (λ z. let s : step_of none (header h) ≡ unless none (headed h) = rw z refl in
        rw (z, header_filled h z)
        (on (headed h) r (step-sound none (header h) (headed h) tt s).fits
        (answer ∙ ap (λ x. onward x (λ d. read_lines (some d) (lines_of r))) s)
        (record { line = header_line.write h ++ bytes "\n"; cut = sound; shorter = ended-shorter header_exact b h r p })))
        (λ z. let s : step_of none (header h) ≡ stop OutOfRange = rw z refl in
        rw z (off OutOfRange (answer ∙ ap (λ x. onward x (λ d. read_lines (some d) (lines_of r))) s))))

    go : (x : Reading Header) → (header_line ◂ "\n").read b ≡ x → Began b (on_read header_judged (Err BrokenForm) (giving held_header x))
    go (got h r) p = there h r p
    go broken p = off BrokenForm (line_absent none b (λ _. refl) (absent p))

-- ---- a further line, where d was read above it

data Went (d : Doc) (b : Bytes) : Turn → Type 0 where
  on : (e : Doc) (r : Bytes) → Fits e → read_lines (some d) (lines_of b) ≡ read_lines (some e) (lines_of r) → Rest b r → Went d b (Ok r, pattern_of e)
  off : (x : Refusal) → read_lines (some d) (lines_of b) ≡ refused x → Went d b (Err x, pattern_of d)

module _ (d : Doc) (fits : Fits d) (b : Bytes) (goes_on : b ≡ [] → ⊥) where
  nothing : b ≡ [] → finish (some d) ≡ refused BrokenForm
  nothing e = absurd (goes_on e)

  -- a line that was read, judged: o is its fault
  ruled-on : (o : Option Refusal) (l : Raw) (e : Doc) (q : Pattern) (r : Bytes) → step_of (some d) l ≡ unless o e → read_lines (some d) (lines_of b) ≡ onward (step_of (some d) l) (λ c. read_lines (some c) (lines_of r))
      → (o ≡ none → q ≡ pattern_of e) → Rest b r → Went d b (ruled (verdict o) q (pattern_of d) r)
  ruled-on none l e q r s a f k = rw (f refl) (on e r (step-sound (some d) l e fits s).fits (a ∙ ap (λ x. onward x (λ c. read_lines (some c) (lines_of r))) s) k)
  ruled-on (some x) l e q r s a f k = off x (a ∙ ap (λ x. onward x (λ c. read_lines (some c) (lines_of r))) s)

  -- ---- an edge

  edge_there : (e : EdgeLine) (r : Bytes) → (edge_line ◂ "\n").read b ≡ got e r → Went d b (edge_judged (pattern_of d) (held_edge d.head.clocks e) r)
  unfolding edge_judged render_line step_of pattern_of
  edge_there e r p = by-test (ltb (length d.places) 1) early late
    where
      sound : b ≡ (edge_line.write e ++ bytes "\n") ++ r
      sound = ended-sound edge_exact b e r p

      answer : read_lines (some d) (lines_of b) ≡ onward (step_of (some d) (edge e)) (λ c. read_lines (some c) (lines_of r))
      answer = ap (λ (x : Bytes). read_lines (some d) (lines_of x)) sound ∙ line_there (some d) (edge e) r

      early : ltb (length d.places) 1 ≡ true → Went d b (edge_judged (pattern_of d) (held_edge d.head.clocks e) r)
      early h = rw h (off BrokenForm (answer ∙ rw (empty-is d.places, h) refl))

      late : ltb (length d.places) 1 ≡ false → Went d b (edge_judged (pattern_of d) (held_edge d.head.clocks e) r)
      late h =
          let s : step_of (some d) (edge e) ≡ unless (edge_fault d e) (with_edge d e) = rw (empty-is d.places, h) refl in
          rw (h, edge-judged d fits e)
          (ruled-on (edge_fault d e) (edge e) (with_edge d e) (put_edge (pattern_of d) (edge_from (held_edge d.head.clocks e))) r s answer (edge_filled d fits e)
          (record { line = edge_line.write e ++ bytes "\n"; cut = sound; shorter = ended-shorter edge_exact b e r p }))

  edge_on : ((l : PlaceLine) (r : Bytes) → b ≡ (place_line.write l ++ bytes "\n") ++ r → step_of (some d) (place l) ≡ stop BrokenForm) → Went d b (edge_turn (pattern_of d) b)
  unfolding edge_turn render_line step_of pattern_of
  edge_on other = go ((edge_line ◂ "\n").read b) refl
    where
      absent : (edge_line ◂ "\n").read b ≡ broken → (l : Raw) (r : Bytes) → b ≡ (render_line l ++ bytes "\n") ++ r → step_of (some d) l ≡ stop BrokenForm
      absent p (header h) r q = refl
      absent p (place l) r q = other l r q
      absent p (edge e) r q = never (sym p ∙ ap (edge_line ◂ "\n").read q ∙ ended-complete edge_exact e r)

      go : (x : Reading EdgeLine) → (edge_line ◂ "\n").read b ≡ x → Went d b (on_read (edge_judged (pattern_of d)) (Err BrokenForm, pattern_of d) (giving (held_edge d.head.clocks) x))
      go (got e r) p = edge_there e r p
      go broken p = off BrokenForm (line_absent (some d) b nothing (absent p))

  -- ---- a place, or an edge

  place_there : is_empty d.edges ≡ true → (l : PlaceLine) (r : Bytes) → (place_line ◂ "\n").read b ≡ got l r → Went d b (place_judged (pattern_of d) (held_place d.head.channels l) r)
  unfolding place_judged render_line step_of pattern_of
  place_there h l r p =
      let sound = ended-sound place_exact b l r p in
      let s : step_of (some d) (place l) ≡ unless (place_fault d l) (with_place d l) = rw h refl in
      rw (place-judged d fits l)
      (ruled-on (place_fault d l) (place l) (with_place d l) (put_place (pattern_of d) (place_from (held_place d.head.channels l))) r s
      (ap (λ (x : Bytes). read_lines (some d) (lines_of x)) sound ∙ line_there (some d) (place l) r) (place_filled d fits l)
      (record { line = place_line.write l ++ bytes "\n"; cut = sound; shorter = ended-shorter place_exact b l r p }))

  place_on : is_empty d.edges ≡ true → Went d b (place_turn (pattern_of d) b)
  unfolding place_turn pattern_of
  place_on h = go ((place_line ◂ "\n").read b) refl
    where
      go : (x : Reading PlaceLine) → (place_line ◂ "\n").read b ≡ x → Went d b (on_read (place_judged (pattern_of d)) (edge_turn (pattern_of d) b) (giving (held_place d.head.channels) x))
      go (got l r) p = place_there h l r p
      go broken p = edge_on (λ l r q. never (sym p ∙ ap (place_line ◂ "\n").read q ∙ ended-complete place_exact l r))

  line_on : Went d b (line_turn (pattern_of d) b)
  unfolding line_turn pattern_of step_of
  line_on = rw (none-is d.edges) (by-test (is_empty d.edges)
      (λ z. rw z (place_on z))
      (λ z. rw z (edge_on (λ l r q. rw z refl))))

-- ---- the walk: a is the answer to the whole text, p the pattern as read so far, and b is left of the text

pub record Stands (a : Answer) (p : Pattern) (b : Bytes) : Type 0 where
  pub doc : Doc
  pub fits : Fits doc
  pub is : p ≡ pattern_of doc
  pub left : a ≡ read_lines (some doc) (lines_of b)

-- the first line
pub record Started (b : Bytes) (p : Pattern) (r : Bytes) : Type 0 where
  pub stands : Stands (read_lines none (lines_of b)) p r
  pub rest : Rest b r

pub started : (b : Bytes) {p : Pattern} {r : Bytes} → Ok (p, r) ≡ header_turn b → Started b p r
started b {p} {r} e = go (header_turn b) (header_on b) e
  where
    go : (x : Result (Pattern × Bytes) Refusal) → Began b x → Ok (p, r) ≡ x → Started b p r
    go x (on d s f a k) e =
        let pair : ◌≡◌ {A = Pattern × Bytes} (p, r) (pattern_of d, s) = cc in
        let same = sym (ap (λ (y : Pattern × Bytes). y.1) pair) in
        record { stands = record { doc = d; fits = f; is = ap (λ (y : Pattern × Bytes). y.0) pair; left = rw same at a }; rest = rw same at k }
    go x (off y a) e = cc

pub not_started : (b : Bytes) {x : Refusal} → Err x ≡ header_turn b → read_lines none (lines_of b) ≡ refused x
not_started b {x} e = go (header_turn b) (header_on b) e
  where
    go : (y : Result (Pattern × Bytes) Refusal) → Began b y → Err x ≡ y → read_lines none (lines_of b) ≡ refused x
    go y (on d s f a k) e = cc
    go y (off z a) e = let same : z ≡ x = cc in rw same at a

-- a further line
pub record Walked (a : Answer) (p : Pattern) (b r : Bytes) : Type 0 where
  pub stands : Stands a p r
  pub rest : Rest b r

module _ {a : Answer} {p : Pattern} {b : Bytes} (stands : Stands a p b) (goes_on : b ≡ [] → ⊥) where
  turned : Went stands.doc b (line_turn p b)
  turned = rw stands.is (line_on stands.doc stands.fits b goes_on)

  pub walked : {q : Pattern} {r : Bytes} → Ok r ≡ (line_turn p b).0 → q ≡ (line_turn p b).1 → Walked a q b r
  walked {q} {r} e f = go (line_turn p b) turned e f
    where
      go : (x : Turn) → Went stands.doc b x → Ok r ≡ x.0 → q ≡ x.1 → Walked a q b r
      go x (on d s k w c) e f =
          let same : s ≡ r = cc in
          record { stands = record { doc = d; fits = k; is = f; left = stands.left ∙ rw same at w }; rest = rw same at c }
      go x (off y w) e f = cc

  pub not_walked : {x : Refusal} → Err x ≡ (line_turn p b).0 → a ≡ refused x
  not_walked {x} e = go (line_turn p b) turned e
    where
      go : (y : Turn) → Went stands.doc b y → Err x ≡ y.0 → a ≡ refused x
      go y (on d s k w c) e = cc
      go y (off z w) e = let same : z ≡ x = cc in stands.left ∙ rw same at w

-- where the next line begins
pub rest_at : (t : Bytes) (at : ℕ) {r : Bytes} → Rest (drop at t) r → drop (length t - length r) t ≡ r
rest_at t at {r} k = rest_is t at k.line r k.cut

-- ---- at the end

module _ {a : Answer} {p : Pattern} (stands : Stands a p []) where
  pub no_place_lem : p.placecount ≡ 0 → a ≡ refused BrokenForm
  unfolding read_lines lines_of finish pattern_of
  no_place_lem e =
      let n : length stands.doc.places ≡ 0 = sym (ap (λ (q : Pattern). q.placecount) stands.is) ∙ e in
      let none : is_empty stands.doc.places ≡ true = empty-is stands.doc.places ∙ rw n refl in
      stands.left ∙ rw none refl

  pub some_place : (p.placecount ≡ 0 → ⊥) → a ≡ accepted p
  unfolding read_lines lines_of finish pattern_of
  some_place e =
      let n : p.placecount ≡ length stands.doc.places = ap (λ (q : Pattern). q.placecount) stands.is in
      let some : is_empty stands.doc.places ≡ false = sym (none-is stands.doc.places) ∙ ne_eqb (length stands.doc.places) 0 (λ h. e (n ∙ h)) in
      stands.left ∙ rw some (ap accepted (sym stands.is))
