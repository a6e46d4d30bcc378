-- What a line says, held, is judged as the line is; and where it has no fault, it is what the line says.
use Prim.Native.Nat.{ℕ, zero, suc, ◌≤◌, min}
use native.Mathlib.Omega.{arith}
use native.Mathlib.Numerals.{add-one}
use mathlib.Core.Path.{◌≡◌, refl, sym, ap, ap₂, ◌∙◌}
use mathlib.Core.List.{List, [], ◌∷◌, map, map-map, map-id}
use mathlib.Core.Bool.{Bool, true, false, ◌&&◌, ◌||◌, and-true}
use Rattle.std.proofs.Math.Bool.{and-false, and_assoc, or-true, or-false}
use lib.Dec.{leb, ltb}
use lib.ListN.{length, take, set, length-map}
use lib.Seq.{take_all}
use lib.IntN.{pos, nat_abs}
use borrow.Author.Tests.{leb-true, leb-false, le-leb, lt-leb, ltb-true, lt-ltb, le-ltb, ne_eqb}
use Rattle.pattern.specs.declared.Sign.TheVariants.{Less}
use Rattle.pattern.specs.declared.Guard.{Guard}
use Rattle.pattern.specs.Slots.{all, within}
use Rattle.pattern.specs.Sound.{no_test, no_guard, bound_in_range, test_in_range, test_known, guard_in_range, guard_known, header_in_range}
use Rattle.pattern.proofs.SoundLaws.{band_parts}
use Rattle.pattern_text.specs.Line as line
use Rattle.pattern_text.specs.Line.{test_of}
use Rattle.pattern_text.specs.Fault.{rising, raw_in_range, raw_known}
use Rattle.pattern_text.specs.Text.{pad, among, flags, place_of}
use Rattle.pattern_text.proofs.Tools.{both, by-test}
use Rattle.text_scan.specs.Scan.{cap}
use Rattle.line_lists.specs.declared.Resets.{Resets}
use Rattle.line_parts.specs.Parts.{held_test, held_guard}
use Rattle.line_lists.specs.Lists.{gathered, gathered_guards}
use Rattle.line_read.specs.Lines.{held_place}
use Rattle.line_lists.specs.ResetList.{no_resets, add_reset, added}
use Rattle.line_lists.proofs.Held.{min-leb, min-ltb, held-is}
use Rattle.pattern_lines.specs.Turn.{place_from}

-- ---- the header

leb-min : (c k n : ℕ) → k ≤ c → leb k (min c n) ≡ leb k n
leb-min c k n h = by-test (leb k n)
    (λ t. rw t (le-leb k (min c n) (omega (arith, leb-true k n t))))
    (λ t. rw t (lt-leb k (min c n) (omega (arith, leb-false k n t))))

window : (l h : ℕ) → within (min cap l) 4_095 (min cap h) ≡ within l 4_095 h
window l h = by-test (leb h 4_095)
    (λ t. let k = leb-true h 4_095 t in let m : min cap h ≡ h = omega arith in rw (m, min-leb cap h l (omega arith)) refl)
    (λ t. rw (min-leb cap 4_095 h (omega arith), t, and-false (leb (min cap l) (min cap h)), and-false (leb l h)) refl)

pub header_held : (c k l h : ℕ) → header_in_range (min cap c) (min cap k) (min cap l) (min cap h) ≡ header_in_range c k l h
unfolding header_in_range
header_held c k l h = rw (leb-min cap 1 c (omega arith), min-leb cap 8 c (omega arith), min-leb cap 4 k (omega arith), leb-min cap 1 l (omega arith), min-leb cap 4_095 l (omega arith), window l h) refl

-- ---- tests and guards

pub few-held : (n : ℕ) → ltb (min 256 n) 5 ≡ leb n 4
few-held n = by-test (leb n 4)
    (λ t. rw t (lt-ltb (min 256 n) 5 (omega (arith, leb-true n 4 t))))
    (λ t. rw t (le-ltb (min 256 n) 5 (omega (arith, leb-false n 4 t))))

map_same : {A B : Type 0} (f g : A → B) (p q : A → Bool) → ((a : A) → p a ≡ true → q a ≡ true → f a ≡ g a) → (xs : List A) → all p xs ≡ true → all q xs ≡ true → map f xs ≡ map g xs
map_same f g p q h [] e k = refl
map_same f g p q h (x ∷ xs) e k =
    let a = both (p x) (all p xs) e in
    let b = both (q x) (all q xs) k in
    ap₂ ◌∷◌ (h x a.0 b.0) (map_same f g p q h xs a.1 b.1)

line_same : (channels : ℕ) → channels ≤ 255 → (x : line.RawTest) → raw_in_range x ≡ true → raw_known channels x ≡ true → held_test (test_of x) ≡ test_of x
unfolding test_in_range bound_in_range test_known
line_same channels few (line.side s c b) r k =
    let n : min 255 c ≡ c = omega (arith, ltb-true c channels k) in
    λ i. record { sign = s; channel = n i; band = false; bound = held-is b r i; high = pos 0 }
line_same channels few (line.inside c l h) r k =
    let n : min 255 c ≡ c = omega (arith, ltb-true c channels k) in
    let p = band_parts l h r in
    λ i. record { sign = Less; channel = n i; band = true; bound = held-is l (le-leb (nat_abs l) 1_000_000 p.low) i; high = held-is h (le-leb (nat_abs h) 1_000_000 p.high) i }

guard-same : (clocks : ℕ) → clocks ≤ 255 → (x : Guard) → guard_in_range x ≡ true → guard_known clocks x ≡ true → held_guard x ≡ x
unfolding guard_in_range guard_known
guard-same clocks few x r k =
    let c : min 255 x.clock ≡ x.clock = omega (arith, ltb-true x.clock clocks k) in
    let b : min 65_535 x.bound ≡ x.bound = omega (arith, leb-true x.bound 1_000 r) in
    λ i. record { sign = x.sign; clock = c i; bound = b i }

-- a place's line without a fault
pub place-held : (channels : ℕ) → channels ≤ 255 → (l : line.PlaceLine) → length l.tests ≤ 4 → all raw_in_range l.tests ≡ true → all (raw_known channels) l.tests ≡ true → place_from (held_place channels l) ≡ place_of l
unfolding place_from gathered place_of
place-held channels few l n r k =
    let ts = map test_of l.tests in
    let m = length-map l.tests test_of in
    let same = map-map held_test test_of l.tests ∙ map_same (λ x. held_test (test_of x)) test_of raw_in_range (raw_known channels) (line_same channels few) l.tests r k in
    let c : min 255 (min 256 (length ts)) ≡ length l.tests = omega arith in
    λ i. record { kind = l.kind; tests = pad 4 no_test ((ap (take 4) same ∙ take_all 4 ts (omega arith)) i); count = c i }

pub guards-held : (clocks : ℕ) → clocks ≤ 255 → (gs : List Guard) → length gs ≤ 4 → all guard_in_range gs ≡ true → all (guard_known clocks) gs ≡ true → (gathered_guards clocks gs).parts ≡ pad 4 no_guard gs
unfolding gathered
guards-held clocks few gs n r k = ap (pad 4 no_guard) (ap (take 4) (map_same held_guard (λ g. g) guard_in_range (guard_known clocks) (guard-same clocks few) gs r k ∙ map-id gs) ∙ take_all 4 gs n)

-- ---- resets

-- whether each is known, and above the one before it
pub added-known : (clocks : ℕ) → clocks ≤ 255 → (s : Resets) (cs : List ℕ) → (added clocks s cs).known ≡ s.known && rising s.least clocks cs
unfolding add_reset rising
added-known clocks few s [] = sym (and-true s.known)
added-known clocks few s (c ∷ cs) =
    added-known clocks few (add_reset clocks s (min cap c)) cs ∙ by-test (ltb c clocks)
    (λ t. let k = ltb-true c clocks t in let m : min cap c ≡ c = omega arith in rw (m, add-one c) (and_assoc s.known (leb s.least c && ltb c clocks) (rising (suc c) clocks cs)))
    (λ t. rw (min-ltb cap clocks c (omega arith), t, and-false (leb s.least (min cap c)), and-false (leb s.least c), and-false s.known) refl)

-- a flag for each clock
four : {a a' b b' c c' d d' : Bool} → a ≡ a' → b ≡ b' → c ≡ c' → d ≡ d' → a ∷ b ∷ c ∷ d ∷ [] ≡ a' ∷ b' ∷ c' ∷ d' ∷ []
four p q r s = λ i. p i ∷ q i ∷ r i ∷ s i ∷ []

added-flags : (clocks : ℕ) (s : Resets) (cs : List ℕ) (x y z w : Bool) → s.flags ≡ x ∷ y ∷ z ∷ w ∷ [] → (added clocks s cs).flags ≡ (x || among 0 cs) ∷ (y || among 1 cs) ∷ (z || among 2 cs) ∷ (w || among 3 cs) ∷ []
unfolding add_reset among
added-flags clocks s [] x y z w e = e ∙ four (sym (or-false x)) (sym (or-false y)) (sym (or-false z)) (sym (or-false w))
added-flags clocks s (zero ∷ cs) x y z w e =
    added-flags clocks (add_reset clocks s 0) cs true y z w (ap (λ f. set f 0 true) e) ∙ four (sym (or-true x)) refl refl refl
added-flags clocks s (suc zero ∷ cs) x y z w e =
    added-flags clocks (add_reset clocks s 1) cs x true z w (ap (λ f. set f 1 true) e) ∙ four refl (sym (or-true y)) refl refl
added-flags clocks s (suc (suc zero) ∷ cs) x y z w e =
    added-flags clocks (add_reset clocks s 2) cs x y true w (ap (λ f. set f 2 true) e) ∙ four refl refl (sym (or-true z)) refl
added-flags clocks s (suc (suc (suc zero)) ∷ cs) x y z w e =
    added-flags clocks (add_reset clocks s 3) cs x y z true (ap (λ f. set f 3 true) e) ∙ four refl refl refl (sym (or-true w))
added-flags clocks s (suc (suc (suc (suc n))) ∷ cs) x y z w e =
    let c = suc (suc (suc (suc n))) in
    added-flags clocks (add_reset clocks s (min cap c)) cs x y z w (rw (le-ltb (min cap c) 4 (omega arith)) e)
    ∙ rw (ne_eqb 0 c (λ p. omega arith), ne_eqb 1 c (λ p. omega arith), ne_eqb 2 c (λ p. omega arith), ne_eqb 3 c (λ p. omega arith)) refl

pub resets-held : (clocks : ℕ) (cs : List ℕ) → (added clocks no_resets cs).flags ≡ flags 0 4 cs
unfolding flags
resets-held clocks cs = added-flags clocks no_resets cs false false false false refl

pub resets-known : (clocks : ℕ) → clocks ≤ 255 → (cs : List ℕ) → (added clocks no_resets cs).known ≡ rising 0 clocks cs
resets-known clocks few cs = added-known clocks few no_resets cs
