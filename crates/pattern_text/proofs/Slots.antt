-- Between a pattern's arrays and the lists that a text has.
use Prim.Native.Nat.{ℕ, zero, suc, ◌-◌, ◌≤◌}
use mathlib.Core.Path.{◌≡◌, refl, sym, ap, ap₂, ◌∙◌}
use mathlib.Core.List.{List, [], ◌∷◌, ◌++◌}
use mathlib.Core.Bool.{Bool, true, false, not, ◌&&◌}
use native.Mathlib.Omega.{arith}
use lib.Dec.{leb, eqb}
use lib.ListN.{length, take, drop, replicate, length-append, length-drop, length-replicate, take-append-drop}
use lib.Seq.{take-append_seam, drop-append_seam, length-take-le}
use lib.IntN.{ℤ, pos, negsuc}
use borrow.Author.Tests.{leb-true, le-leb, eqb-true, eq-eqb}
use Rattle.pattern.specs.declared.Sign.{Sign}
use Rattle.pattern.specs.declared.Sign.TheVariants.{Less, AtMost, More, AtLeast}
use Rattle.pattern.specs.declared.Kind.{Kind}
use Rattle.pattern.specs.declared.Kind.TheVariants.{Start, Plain, End, Both}
use Rattle.pattern.specs.declared.Test.{Test}
use Rattle.pattern.specs.declared.Guard.{Guard}
use Rattle.pattern.specs.declared.Place.{Place}
use Rattle.pattern.specs.declared.Edge.{Edge}
use Rattle.pattern.specs.Slots.{all, slots}
use Rattle.pattern.specs.Sound.{no_test, no_place, no_guard, no_edge, is_less, is_plain, is_null, test_unused, guard_unused, place_unused, edge_unused}
use Rattle.pattern_text.specs.Text.{pad}
use Rattle.pattern_text.proofs.Tools.{both, three, four}

-- ---- an array whose first slots are in use, and the list of those

-- all that are unused are alike
all_replicate : {A : Type 0} (unused : A → Bool) (u : A) → ((a : A) → unused a ≡ true → a ≡ u) → (xs : List A) → all unused xs ≡ true → xs ≡ replicate (length xs) u
all_replicate unused u only [] h = refl
all_replicate unused u only (x ∷ xs) h =
    let k = both (unused x) (all unused xs) h in
    ap₂ ◌∷◌ (only x k.0) (all_replicate unused u only xs k.1)

replicate-all : {A : Type 0} (unused : A → Bool) (u : A) → unused u ≡ true → (n : ℕ) → all unused (replicate n u) ≡ true
replicate-all unused u h zero = refl
replicate-all unused u h (suc n) = rw h (replicate-all unused u h n)

pub record Slotted {A : Type 0} (used unused : A → Bool) (size n : ℕ) (u : A) (xs : List A) : Type 0 where
  pub whole : length xs ≡ size
  pub fits : n ≤ size
  pub count : length (take n xs) ≡ n
  pub used_ones : all used (take n xs) ≡ true
  pub unused_ones : all unused (drop n xs) ≡ true
  pub padded : pad size u (take n xs) ≡ xs

module _ {A : Type 0} (used unused : A → Bool) (size : ℕ) (u : A) where
  pub slotted : ((a : A) → unused a ≡ true → a ≡ u) → (n : ℕ) (xs : List A) → slots used unused size n xs ≡ true → Slotted used unused size n u xs
  unfolding slots pad
  slotted only n xs h =
      let k = four (eqb (length xs) size) (leb n size) (all used (take n xs)) (all unused (drop n xs)) h in
      let size_is : length xs ≡ size = eqb-true (length xs) size k.0 in
      let fits : n ≤ size = leb-true n size k.1 in
      let count : length (take n xs) ≡ n = length-take-le n xs (omega arith) in
      let gap : size - length (take n xs) ≡ length (drop n xs) = rw (length-drop n xs) (omega arith) in
      record {
        whole = size_is;
        fits = fits;
        count = count;
        used_ones = k.2;
        unused_ones = k.3;
        padded = ap (λ (k : ℕ). take n xs ++ replicate k u) gap ∙ ap (◌++◌ (take n xs)) (sym (all_replicate unused u only (drop n xs) k.3)) ∙ take-append-drop n xs;
      }

  pub pad-slots : unused u ≡ true → (xs : List A) → length xs ≤ size → all used xs ≡ true → slots used unused size (length xs) (pad size u xs) ≡ true
  unfolding slots pad
  pad-slots h xs n k =
      rw (
        eq-eqb (length (xs ++ replicate (size - length xs) u)) size (rw (length-append xs (replicate (size - length xs) u), length-replicate (size - length xs) u) (omega arith)),
        le-leb (length xs) size n,
        take-append_seam xs (replicate (size - length xs) u),
        k,
        drop-append_seam xs (replicate (size - length xs) u),
      ) (replicate-all unused u h (size - length xs))

pub take-pad : {A : Type 0} (size : ℕ) (u : A) (xs : List A) → take (length xs) (pad size u xs) ≡ xs
unfolding pad
take-pad size u xs = take-append_seam xs (replicate (size - length xs) u)

-- ---- unused slots are alike

pub not-only : (b : Bool) → not b ≡ true → b ≡ false
not-only true h = sym h
not-only false h = refl

pub less-only : (s : Sign) → is_less s ≡ true → s ≡ Less
less-only Less h = refl
less-only AtMost h = cc
less-only More h = cc
less-only AtLeast h = cc

plain-only : (k : Kind) → is_plain k ≡ true → k ≡ Plain
plain-only Start h = cc
plain-only Plain h = refl
plain-only End h = cc
plain-only Both h = cc

pub null_only : (z : ℤ) → is_null z ≡ true → z ≡ pos 0
null_only (pos n) h = ap pos (eqb-true n 0 h)
null_only (negsuc n) h = cc

pub test-only : (t : Test) → test_unused t ≡ true → t ≡ no_test
unfolding test_unused
test-only t h =
    let m = both (is_less t.sign && eqb t.channel 0 && not t.band && is_null t.bound) (is_null t.high) h in
    let k = four (is_less t.sign) (eqb t.channel 0) (not t.band) (is_null t.bound) m.0 in
    λ i. record {
      sign = less-only t.sign k.0 i;
      channel = eqb-true t.channel 0 k.1 i;
      band = not-only t.band k.2 i;
      bound = null_only t.bound k.3 i;
      high = null_only t.high m.1 i;
    }

pub guard-only : (g : Guard) → guard_unused g ≡ true → g ≡ no_guard
unfolding guard_unused
guard-only g h =
    let k = three (is_less g.sign) (eqb g.clock 0) (eqb g.bound 0) h in
    λ i. record { sign = less-only g.sign k.0 i; clock = eqb-true g.clock 0 k.1 i; bound = eqb-true g.bound 0 k.2 i }

pub place-only : (l : Place) → place_unused l ≡ true → l ≡ no_place
unfolding place_unused pad
place-only l h =
    let k = three (is_plain l.kind) (eqb l.count 0) (slots test_unused test_unused 4 0 l.tests) h in
    let t = slotted test_unused test_unused 4 no_test test-only 0 l.tests k.2 in
    λ i. record { kind = plain-only l.kind k.0 i; tests = sym t.padded i; count = eqb-true l.count 0 k.1 i }

pub edge-only : (e : Edge) → edge_unused e ≡ true → e ≡ no_edge
unfolding edge_unused pad
edge-only e h =
    let k = both (eqb e.from 0 && eqb e.to 0 && eqb e.count 0 && slots guard_unused guard_unused 4 0 e.guards) (slots not not 4 0 e.resets) h in
    let l = four (eqb e.from 0) (eqb e.to 0) (eqb e.count 0) (slots guard_unused guard_unused 4 0 e.guards) k.0 in
    let g = slotted guard_unused guard_unused 4 no_guard guard-only 0 e.guards l.3 in
    let r = slotted not not 4 false not-only 0 e.resets k.1 in
    λ i. record {
      from = eqb-true e.from 0 l.0 i;
      to = eqb-true e.to 0 l.1 i;
      guards = sym g.padded i;
      count = eqb-true e.count 0 l.2 i;
      resets = sym r.padded i;
    }
