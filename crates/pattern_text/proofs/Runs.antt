-- What is read without a fault fits, and what fits is read without a fault.
use Prim.Native.Nat.{ℕ, ◌+◌, ◌≤◌, ◌<◌}
use mathlib.Core.Path.{◌≡◌, refl, sym, ap, ap₂, subst, ◌∙◌}
use mathlib.Core.List.{List, [], ◌∷◌, ◌++◌, map, map-append, append-nil, append_assoc}
use mathlib.Core.Option.{Option, none, some}
use mathlib.Core.Bool.{Bool, true, false, cond, ◌&&◌}
use native.Mathlib.Omega.{arith}
use lib.Dec.{leb, ltb}
use lib.ListN.{length, length-append}
use borrow.Author.Tests.{ltb-true, lt-ltb}
use Rattle.pattern.specs.declared.Refusal.{Refusal}
use Rattle.pattern.specs.declared.Refusal.TheVariants.{BrokenForm}
use Rattle.pattern.specs.Slots.{all}
use Rattle.pattern.specs.Sound.{guard_in_range, header_in_range}
use Rattle.pattern_text.specs.Bytes.{Bytes, bytes}
use Rattle.pattern_text.specs.Form.{write_many}
use Rattle.pattern_text.specs.Line.{Header, PlaceLine, EdgeLine, Raw, render_line, header, place, edge}
use Rattle.pattern_text.specs.Fault.{Doc, judged, edge_known, raw_in_range, raw_known, header_fault, place_fault, edge_fault, unless, is_empty, with_place, with_edge, step_of, next, stop}
use Rattle.pattern_text.specs.Text.{raws_of, ended}
use Rattle.pattern_text.specs.Claims.{Says, nothing, onemore}
use Rattle.pattern_text.proofs.Tools.{both, in_both, all_append}
use Rattle.pattern_text.proofs.LineLaws.{form}

-- ---- what was read without a fault

unfoldable pub head_fits : Header → Bool
head_fits h = header_in_range h.channels h.clocks h.low h.high

unfoldable pub place_fits : (channels : ℕ) → PlaceLine → Bool
place_fits channels l = leb (length l.tests) 4 && (all raw_in_range l.tests && all (raw_known channels) l.tests)

unfoldable pub edge_fits : (clocks places : ℕ) → EdgeLine → Bool
edge_fits clocks places e = leb (length e.guards) 4 && (all guard_in_range e.guards && edge_known clocks places e)

pub record Fits (d : Doc) : Type 0 where
  pub head : head_fits d.head ≡ true
  pub few : length d.places ≤ 16
  pub places : all (place_fits d.head.channels) d.places ≡ true
  pub few_edges : length d.edges ≤ 32
  pub edges : all (edge_fits d.head.clocks (length d.places)) d.edges ≡ true

-- ---- a line has no fault exactly if it fits

faultless : {X : Type 0} {r : Refusal} → some r ≡ none → X
faultless e = let z : ◌≡◌ {A = ℕ} 0 1 = cc in absurd (omega arith)

pub clear : (few in_range known : Bool) → judged few in_range known ≡ none → (few ≡ true) × ((in_range && known) ≡ true)
unfolding judged
clear true true true e = (refl, refl)
clear true true false e = faultless e
clear true false k e = faultless e
clear false i k e = faultless e

cleared : (few in_range known : Bool) → few ≡ true → (in_range && known) ≡ true → judged few in_range known ≡ none
unfolding judged
cleared few in_range known p q = rw (p, (both in_range known q).0, (both in_range known q).1) refl

-- ---- a step

abbrev pub Before : Option Doc → Type 0
Before none = Unit {0}
Before (some d) = Fits d

abbrev pub raws : Option Doc → List Raw
raws none = []
raws (some d) = raws_of d

pub record Stepped (s : Option Doc) (l : Raw) (d : Doc) : Type 0 where
  pub fits : Fits d
  pub more : raws_of d ≡ raws s ++ (l ∷ [])

unless_inv : {X : Type 0} (o : Option Refusal) (d d' : Doc) → unless o d ≡ next d' → (o ≡ none → d ≡ d' → X) → X
unless_inv none d d' e f = f refl (cc)
unless_inv (some r) d d' e f = let z : ◌≡◌ {A = ℕ} 0 1 = cc in absurd (omega arith)

stopped : {X : Type 0} {r : Refusal} {d : Doc} → stop r ≡ next d → X
stopped e = let z : ◌≡◌ {A = ℕ} 0 1 = cc in absurd (omega arith)

step_header : (h : Header) → header_fault h ≡ none → Stepped none (header h) (record { head = h; places = []; edges = [] })
unfolding header_fault head_fits raws_of
step_header h z = record {
  fits = record { head = (both _ true (clear true (head_fits h) true z).1).0; few = omega arith; places = refl; few_edges = omega arith; edges = refl };
  more = refl;
}

place-last : (ls : List PlaceLine) (l : PlaceLine) → map place (ls ++ (l ∷ [])) ++ [] ≡ map place ls ++ [] ++ (place l ∷ [])
place-last ls l = append-nil (map place (ls ++ (l ∷ []))) ∙ map-append place ls (l ∷ []) ∙ ap (λ (xs : List Raw). xs ++ (place l ∷ [])) (sym (append-nil (map place ls)))

edge-last : (xs : List Raw) (es : List EdgeLine) (e : EdgeLine) → xs ++ map edge (es ++ (e ∷ [])) ≡ xs ++ map edge es ++ (edge e ∷ [])
edge-last xs es e = ap (◌++◌ xs) (map-append edge es (e ∷ [])) ∙ sym (append_assoc xs (map edge es) (edge e ∷ []))

step-place : (d : Doc) (l : PlaceLine) → Fits d → d.edges ≡ [] → place_fault d l ≡ none → Stepped (some d) (place l) (with_place d l)
unfolding place_fault place_fits raws_of
step-place d l f p z =
    let c = clear (ltb (length d.places) 16 && leb (length l.tests) 4) (all raw_in_range l.tests) (all (raw_known d.head.channels) l.tests) z in
    let k = both (ltb (length d.places) 16) (leb (length l.tests) 4) c.0 in
    record {
      fits = record {
        head = f.head;
        few = rw (length-append d.places (l ∷ [])) (omega (arith, ltb-true (length d.places) 16 k.0));
        places = all_append (place_fits d.head.channels) d.places (l ∷ []) f.places (in_both (in_both k.1 c.1) refl);
        few_edges = f.few_edges;
        edges = rw p refl;
      };
      more = rw p (ap (◌∷◌ (header d.head)) (place-last d.places l));
    }

step-edge : (d : Doc) (e : EdgeLine) → Fits d → edge_fault d e ≡ none → Stepped (some d) (edge e) (with_edge d e)
unfolding edge_fault edge_fits raws_of
step-edge d e f z =
    let c = clear (ltb (length d.edges) 32 && leb (length e.guards) 4) (all guard_in_range e.guards) (edge_known d.head.clocks (length d.places) e) z in
    let k = both (ltb (length d.edges) 32) (leb (length e.guards) 4) c.0 in
    record {
      fits = record {
        head = f.head;
        few = f.few;
        places = f.places;
        few_edges = rw (length-append d.edges (e ∷ [])) (omega (arith, ltb-true (length d.edges) 32 k.0));
        edges = all_append (edge_fits d.head.clocks (length d.places)) d.edges (e ∷ []) f.edges (in_both (in_both k.1 c.1) refl);
      };
      more = ap (◌∷◌ (header d.head)) (edge-last (map place d.places) d.edges e);
    }

pub step-sound : (s : Option Doc) (l : Raw) (d : Doc) → Before s → step_of s l ≡ next d → Stepped s l d
unfolding step_of
step-sound none (header h) d f e = unless_inv (header_fault h) _ d e (λ z q. subst (Stepped none (header h)) q (step_header h z))
step-sound none (place l) d f e = stopped e
step-sound none (edge l) d f e = stopped e
step-sound (some c) (header h) d f e = stopped e
step-sound (some c) (place l) d f e = go c.edges refl e
  where
    go : (es : List EdgeLine) → c.edges ≡ es → cond (is_empty es) (unless (place_fault c l) (with_place c l)) (stop BrokenForm) ≡ next d → Stepped (some c) (place l) d
    go [] p e = unless_inv (place_fault c l) (with_place c l) d e (λ z q. subst (Stepped (some c) (place l)) q (step-place c l f p z))
    go (x ∷ es) p e = stopped e
step-sound (some c) (edge l) d f e = go (is_empty c.places) e
  where
    go : (t : Bool) → cond t (stop BrokenForm) (unless (edge_fault c l) (with_edge c l)) ≡ next d → Stepped (some c) (edge l) d
    go true e = stopped e
    go false e = unless_inv (edge_fault c l) (with_edge c l) d e (λ z q. subst (Stepped (some c) (edge l)) q (step-edge c l f z))

-- ---- lines without a fault are the text of what fits

pub write-append : (xs ys : List Raw) → write_many ended (xs ++ ys) ≡ write_many ended xs ++ write_many ended ys
unfolding write_many
write-append [] ys = refl
write-append (x ∷ xs) ys = ap (◌++◌ (ended x)) (write-append xs ys) ∙ sym (append_assoc (ended x) (write_many ended xs) (write_many ended ys))

pub record Meant (t : Bytes) (s : Option Doc) : Type 0 where
  pub fits : Before s
  pub text : t ≡ write_many ended (raws s)

pub says_fits : {t : Bytes} {s : Option Doc} → Says t s → Meant t s
unfolding write_many ended
says_fits nothing = record { fits = tt; text = refl }
says_fits (onemore {s = s} {d = d} b l h p q) =
    let m = says_fits h in
    let k = step-sound s l d m.fits q in
    record {
      fits = k.fits;
      text = ap₂ ◌++◌ m.text (ap (λ (x : Bytes). x ++ bytes "\n") ((form b l).0 p) ∙ sym (append-nil (ended l)))
          ∙ sym (ap (write_many ended) k.more ∙ write-append (raws s) (l ∷ []));
    }

-- ---- what fits is the meaning of its text

module _ (d : Doc) where
  place_clear : (l : PlaceLine) → length d.places < 16 → place_fits d.head.channels l ≡ true → place_fault d l ≡ none
  unfolding place_fits place_fault
  place_clear l n h =
      let m = both (leb (length l.tests) 4) (all raw_in_range l.tests && all (raw_known d.head.channels) l.tests) h in
      cleared (ltb (length d.places) 16 && leb (length l.tests) 4) (all raw_in_range l.tests) (all (raw_known d.head.channels) l.tests)
      (in_both (lt-ltb (length d.places) 16 n) m.0) m.1

  edge_clear : (e : EdgeLine) → length d.edges < 32 → edge_fits d.head.clocks (length d.places) e ≡ true → edge_fault d e ≡ none
  unfolding edge_fits edge_fault
  edge_clear e n h =
      let m = both (leb (length e.guards) 4) (all guard_in_range e.guards && edge_known d.head.clocks (length d.places) e) h in
      cleared (ltb (length d.edges) 32 && leb (length e.guards) 4) (all guard_in_range e.guards) (edge_known d.head.clocks (length d.places) e)
      (in_both (lt-ltb (length d.edges) 32 n) m.0) m.1

abbrev doc : Header → List PlaceLine → List EdgeLine → Doc
doc h ls es = record { head = h; places = ls; edges = es }

say : {t : Bytes} {s : Option Doc} {d : Doc} (l : Raw) → Says t s → step_of s l ≡ next d → Says (t ++ ended l) (some d)
unfolding ended
say l h q = onemore (render_line l) l h ((form (render_line l) l).1 refl) q

module _ (h : Header) where
  say_places : (ms ls : List PlaceLine) (t : Bytes) → length ls + length ms ≤ 16 → all (place_fits h.channels) ms ≡ true
      → Says t (some (doc h ls [])) → Says (t ++ write_many ended (map place ms)) (some (doc h (ls ++ ms) []))
  unfolding write_many step_of
  say_places [] ls t n k s = rw (append-nil t, append-nil ls) s
  say_places (m ∷ ms) ls t n k s =
      let b = both (place_fits h.channels m) (all (place_fits h.channels) ms) k in
      rw (append_assoc t (ended (place m)) (write_many ended (map place ms)), append_assoc ls (m ∷ []) ms) at
      (say_places ms (ls ++ (m ∷ [])) (t ++ ended (place m)) (rw (length-append ls (m ∷ [])) (omega arith)) b.1
      (say (place m) s (rw (place_clear (doc h ls []) m (omega arith) b.0) refl)))

  say_edges : (ms es : List EdgeLine) (l : PlaceLine) (ls : List PlaceLine) (t : Bytes) → length es + length ms ≤ 32 → all (edge_fits h.clocks (length (l ∷ ls))) ms ≡ true
      → Says t (some (doc h (l ∷ ls) es)) → Says (t ++ write_many ended (map edge ms)) (some (doc h (l ∷ ls) (es ++ ms)))
  unfolding write_many step_of
  say_edges [] es l ls t n k s = rw (append-nil t, append-nil es) s
  say_edges (m ∷ ms) es l ls t n k s =
      let b = both (edge_fits h.clocks (length (l ∷ ls)) m) (all (edge_fits h.clocks (length (l ∷ ls))) ms) k in
      rw (append_assoc t (ended (edge m)) (write_many ended (map edge ms)), append_assoc es (m ∷ []) ms) at
      (say_edges ms (es ++ (m ∷ [])) l ls (t ++ ended (edge m)) (rw (length-append es (m ∷ [])) (omega arith)) b.1
      (say (edge m) s (rw (edge_clear (doc h (l ∷ ls) es) m (omega arith) b.0) refl)))

  say_all : (ls : List PlaceLine) (es : List EdgeLine) → Fits (doc h ls es) → 0 < length ls → Says (write_many ended (raws_of (doc h ls es))) (some (doc h ls es))
  unfolding write_many step_of raws_of header_fault judged head_fits
  say_all [] es f n = absurd (omega arith)
  say_all (l ∷ ls) es f n =
      rw (write-append (map place (l ∷ ls)) (map edge es), ← append_assoc (ended (header h)) (write_many ended (map place (l ∷ ls))) (write_many ended (map edge es)))
      (say_edges es [] l ls (ended (header h) ++ write_many ended (map place (l ∷ ls))) (omega (arith, f.few_edges)) f.edges
      (say_places (l ∷ ls) [] (ended (header h)) (omega (arith, f.few)) f.places (say (header h) nothing (rw f.head refl))))

pub fits_says : (d : Doc) → Fits d → 0 < length d.places → Says (write_many ended (raws_of d)) (some d)
fits_says d f n = say_all d.head d.places d.edges f n
