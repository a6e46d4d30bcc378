-- A text is refused for one of the causes 1 to 5.
use Prim.Native.Nat.{ℕ, ◌≤◌}
use mathlib.Core.Path.{◌≡◌, refl}
use mathlib.Core.Option.{Option, none, some}
use mathlib.Core.Bool.{Bool, true, false, cond}
use native.Mathlib.Omega.{arith}
use Rattle.pattern.specs.declared.Refusal.{Refusal}
use Rattle.pattern.specs.declared.Refusal.TheVariants.{TextTooLong, BrokenForm}
use Rattle.pattern.specs.Refusal.{number_of}
use Rattle.pattern_text.specs.Bytes.{Bytes}
use Rattle.pattern_text.specs.Line.{Raw, header, place, edge, PlaceLine, EdgeLine, line_of}
use Rattle.pattern_text.specs.Fault.{Doc, judged, header_fault, place_fault, edge_fault, stop, unless, is_empty, with_place, with_edge, step_of}
use Rattle.pattern_text.specs.Text.{Answer, accepted, refused, pattern_of, finish, meant}
use Rattle.pattern_text.specs.Claims.{Outcome, long, faulty, unended, whole, RefusalNumbers}
use Rattle.pattern_text.proofs.Answers.{answers_exact}

abbrev Number : Refusal → Type 0
Number r = (1 ≤ number_of r) × (number_of r ≤ 5)

abbrev Numbered : Option Refusal → Type 0
Numbered none = Unit {0}
Numbered (some r) = Number r

judged-number : (few in_range known : Bool) → Numbered (judged few in_range known)
unfolding judged
judged-number true true true = tt
judged-number true true false = (omega arith, omega arith)
judged-number true false k = (omega arith, omega arith)
judged-number false i k = (omega arith, omega arith)

stop_number : (q r : Refusal) → stop q ≡ stop r → Number q → Number r
stop_number q r e h = let k : q ≡ r = cc in rw (← k) h

broken_number : (r : Refusal) → stop BrokenForm ≡ stop r → Number r
broken_number r e = stop_number BrokenForm r e (omega arith, omega arith)

unless-number : (o : Option Refusal) (d : Doc) (r : Refusal) → Numbered o → unless o d ≡ stop r → Number r
unless-number none d r h e = let z : ◌≡◌ {A = ℕ} 0 1 = cc in absurd (omega arith)
unless-number (some q) d r h e = stop_number q r e h

place-number : (d : Doc) (l : PlaceLine) → Numbered (place_fault d l)
unfolding place_fault
place-number d l = judged-number _ _ _

edge-number : (d : Doc) (e : EdgeLine) → Numbered (edge_fault d e)
unfolding edge_fault
edge-number d e = judged-number _ _ _

step-number : (s : Option Doc) (l : Raw) (r : Refusal) → step_of s l ≡ stop r → Number r
unfolding step_of header_fault
step-number none (header h) r e = unless-number (header_fault h) _ r (judged-number _ _ _) e
step-number none (place l) r e = broken_number r e
step-number none (edge l) r e = broken_number r e
step-number (some d) (header h) r e = broken_number r e
step-number (some d) (place l) r e = go (is_empty d.edges) e
  where
    go : (t : Bool) → cond t (unless (place_fault d l) (with_place d l)) (stop BrokenForm) ≡ stop r → Number r
    go true e = unless-number (place_fault d l) (with_place d l) r (place-number d l) e
    go false e = broken_number r e
step-number (some d) (edge l) r e = go (is_empty d.places) e
  where
    go : (t : Bool) → cond t (stop BrokenForm) (unless (edge_fault d l) (with_edge d l)) ≡ stop r → Number r
    go true e = broken_number r e
    go false e = unless-number (edge_fault d l) (with_edge d l) r (edge-number d l) e

refused_number : (q r : Refusal) → refused q ≡ refused r → Number q → Number r
refused_number q r e h = let k : q ≡ r = cc in rw (← k) h

finish-number : (s : Option Doc) (r : Refusal) → finish s ≡ refused r → Number r
unfolding finish
finish-number none r e = refused_number BrokenForm r e (omega arith, omega arith)
finish-number (some d) r e = go (is_empty d.places) e
  where
    go : (t : Bool) → cond t (refused BrokenForm) (accepted (pattern_of d)) ≡ refused r → Number r
    go true e = refused_number BrokenForm r e (omega arith, omega arith)
    go false e = let z : ◌≡◌ {A = ℕ} 0 1 = cc in absurd (omega arith)

outcome-number : (t : Bytes) (a : Answer) (r : Refusal) → Outcome t a → a ≡ refused r → Number r
outcome-number t a r (long h) e = refused_number TextTooLong r e (omega arith, omega arith)
outcome-number t a r (faulty {f = k} s u b v m h f p q) e = refused_number k r e (go (line_of b) q)
  where
    go : (o : Option Raw) → meant s o ≡ stop k → Number k
    go none q = broken_number k q
    go (some l) q = step-number s l k q
outcome-number t a r (unended s u c b m h f p) e = refused_number BrokenForm r e (omega arith, omega arith)
outcome-number t a r (whole s m h) e = finish-number s r e

pub refusal_numbers : RefusalNumbers
refusal_numbers t r e = outcome-number t (refused r) r ((answers_exact t (refused r)).0 e) refl
