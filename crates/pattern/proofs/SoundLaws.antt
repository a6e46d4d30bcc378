-- What a sound pattern has, taken out of the test, part by part.
use Prim.Native.Nat.{ℕ, ◌≤◌, ◌<◌}
use mathlib.Core.Path.{◌≡◌, refl}
use mathlib.Core.List.{List}
use mathlib.Core.Bool.{Bool, true, false, not, ◌&&◌}
use native.Mathlib.Omega.{arith}
use borrow.Author.Tests.{eqb-true, leb-true, ltb-true}
use lib.Dec.{leb}
use lib.ListN.{length, take, drop}
use lib.IntN.{ℤ, nat_abs}
use lib.Signed.{le_z}
use Rattle.pattern.specs.declared.Test.{Test}
use Rattle.pattern.specs.declared.Edge.{Edge}
use Rattle.pattern.specs.declared.Pattern.{Pattern}
use Rattle.pattern.specs.Slots.{all, slots, anything}
use Rattle.pattern.specs.Sound.{bound_in_range, band_in_range, unsaid_zero, test_in_range, test_known, test_sound, guard_in_range, guard_known, guard_unused, place_sound, place_unused, edge_sound, edge_unused, header_in_range, sound_of}

pub both : (a b : Bool) → a && b ≡ true → (a ≡ true) × (b ≡ true)
both true b e = (refl, e)
both false b e = (e, absurd (no e))
  where
    no : ◌≡◌ {A = Bool} false true → ⊥
    no e = let z : ◌≡◌ {A = ℕ} 0 1 = cc in omega arith

-- an array whose slots are fine
pub record Slotted {A : Type 0} (used unused : A → Bool) (size n : ℕ) (xs : List A) : Type 0 where
  pub long : length xs ≡ size
  pub few : n ≤ size
  pub front : all used (take n xs) ≡ true
  pub rest : all unused (drop n xs) ≡ true

pub slotted : {A : Type 0} {used unused : A → Bool} {size n : ℕ} {xs : List A} → slots used unused size n xs ≡ true → Slotted used unused size n xs
unfolding slots
slotted {A} {used} {unused} {size} {n} {xs} e =
    let r = both _ _ e in
    let f = both _ _ r.0 in
    let l = both _ _ f.0 in
    record { long = eqb-true _ _ l.0; few = leb-true _ _ l.1; front = f.1; rest = r.1 }

-- the parts of a sound pattern
pub record Parts (p : Pattern) : Type 0 where
  pub some_channel : 1 ≤ p.channels
  pub few_channels : p.channels ≤ 8
  pub few_clocks : p.clocks ≤ 4
  pub some_low : 1 ≤ p.low
  pub ordered : p.low ≤ p.high
  pub short_high : p.high ≤ 4095
  pub some_place : 1 ≤ p.placecount
  pub places : Slotted (place_sound p.channels) place_unused 16 p.placecount p.places
  pub edges : Slotted (edge_sound p.clocks p.placecount) edge_unused 32 p.edgecount p.edges

pub parts : (p : Pattern) → sound_of p ≡ true → Parts p
unfolding sound_of header_in_range
parts p e =
    let a = both _ _ e in
    let b = both _ _ a.0 in
    let c = both _ _ b.0 in
    let window = both _ _ c.0 in
    let low = both _ _ window.0 in
    let clocks = both _ _ low.0 in
    let channels = both _ _ clocks.0 in
    record {
      some_channel = leb-true _ _ channels.0;
      few_channels = leb-true _ _ channels.1;
      few_clocks = leb-true _ _ clocks.1;
      some_low = leb-true _ _ (both _ _ low.1).0;
      ordered = leb-true _ _ (both _ _ window.1).0;
      short_high = leb-true _ _ (both (leb p.low p.high) _ window.1).1;
      some_place = leb-true _ _ c.1;
      places = slotted b.1;
      edges = slotted a.1;
    }

-- the parts of a sound edge
pub record EdgeParts (clocks places : ℕ) (e : Edge) : Type 0 where
  pub from_place : e.from < places
  pub to_place : e.to < places
  pub guards : Slotted (λ g. guard_in_range g && guard_known clocks g) guard_unused 4 e.count e.guards
  pub resets : Slotted anything not 4 clocks e.resets

pub edge-parts : (clocks places : ℕ) (e : Edge) → edge_sound clocks places e ≡ true → EdgeParts clocks places e
unfolding edge_sound
edge-parts clocks places e h =
    let a = both _ _ h in
    let b = both _ _ a.0 in
    let c = both _ _ b.0 in
    record { from_place = ltb-true _ _ c.0; to_place = ltb-true _ _ c.1; guards = slotted b.1; resets = slotted a.1 }

-- the parts of a band in range
pub record BandParts (l h : ℤ) : Type 0 where
  pub low : nat_abs l ≤ 1_000_000
  pub high : nat_abs h ≤ 1_000_000
  pub ordered : le_z l h ≡ true

pub band_parts : (l h : ℤ) → band_in_range l h ≡ true → BandParts l h
unfolding band_in_range bound_in_range
band_parts l h e =
    let a = both _ _ e in
    let b = both _ _ a.0 in
    record { low = leb-true _ _ b.0; high = leb-true _ _ b.1; ordered = a.1 }

-- the parts of a test in use
pub record TestParts (channels : ℕ) (t : Test) : Type 0 where
  pub in_range : test_in_range t ≡ true
  pub known : test_known channels t ≡ true
  pub rest : unsaid_zero t ≡ true

pub test_parts : (channels : ℕ) (t : Test) → test_sound channels t ≡ true → TestParts channels t
unfolding test_sound
test_parts channels t e =
    let a = both _ _ e in
    let b = both _ _ a.0 in
    record { in_range = b.0; known = b.1; rest = a.1 }
