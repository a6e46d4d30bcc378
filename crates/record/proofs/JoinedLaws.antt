-- Joining by any test of neighbours, and agreement in a place.
use Prim.Native.Nat.{ℕ, zero, suc}
use mathlib.Core.Path.{◌≡◌, refl, ap, ap₂, ◌∙◌}
use mathlib.Core.List.{List, [], ◌∷◌, ◌++◌, map}
use mathlib.Core.Bool.{Bool, true, false, cond}
use lib.ListN.{replicate}
use lib.IntN.{ℤ}
use Rattle.integers.specs.Least.{min_z}
use Rattle.integers.proofs.Equal.{eq_self, eq-true}
use Rattle.integers.proofs.Least.{min_assoc, min_self}
use Rattle.weighting.specs.declared.Weighing.{Weighing}
use Rattle.weighting.specs.Weighting.{combine_from, combine_all}
use Rattle.weighting.proofs.Weightings.{margin, weighting_of}
use Rattle.pattern.specs.declared.Test.{Test}
use Rattle.pattern.specs.declared.Place.{Place}
use Rattle.pattern.specs.Slots.{all}
use Rattle.pattern.specs.InUse.{tests_of}
use Rattle.pattern.specs.Distance.{Sample, reading_of, distance_of, distance_in, distances_of, place_worth}
use Rattle.pattern.proofs.SoundLaws.{both}
use Rattle.record.specs.Joined.{absorb, joined, fresh_after, agree_on, agrees}

-- ---- joining

module _ {A : Type 0} (same : A → A → Bool) where
  -- from left to right
  pub joined_fresh : (x : A) (b : List A) → joined same (x ∷ b) ≡ x ∷ fresh_after same x b
  unfolding joined absorb fresh_after
  joined_fresh x [] = refl
  joined_fresh x (y ∷ b) = ap (absorb same x) (joined_fresh y b) ∙ by (same x y)
    where
      by : (t : Bool) → cond t (x ∷ fresh_after same y b) (x ∷ y ∷ fresh_after same y b) ≡ x ∷ cond t (fresh_after same y b) (y ∷ fresh_after same y b)
      by true = refl
      by false = refl

  pub fresh_same : (m : ℕ) (x : A) (b : List A) → same x x ≡ true → fresh_after same x (replicate m x ++ b) ≡ fresh_after same x b
  unfolding fresh_after
  fresh_same zero x b e = refl
  fresh_same (suc m) x b e = rw e (fresh_same m x b e)

  -- in margin, where those that are one are worth the same
  module _ (f : A → ℤ) (alike : (x y : A) → same x y ≡ true → f x ≡ f y) where
    absorbed : (a : ℤ) (x : A) (ys : List A) → combine_from margin a (map f (absorb same x ys)) ≡ combine_from margin (min_z a (f x)) (map f ys)
    unfolding absorb combine_from
    absorbed a x [] = refl
    absorbed a x (y ∷ ys) = by (same x y) refl
      where
        by : (t : Bool) → same x y ≡ t → combine_from margin a (map f (cond t (x ∷ ys) (x ∷ y ∷ ys))) ≡ combine_from margin (min_z (min_z a (f x)) (f y)) (map f ys)
        by true e = rw (min_assoc a (f x) (f y), ← alike x y e, min_self (f x))
        by false e = refl

    pub margin-joined : (a : ℤ) (b : List A) → combine_from margin a (map f (joined same b)) ≡ combine_from margin a (map f b)
    unfolding joined combine_from
    margin-joined a [] = refl
    margin-joined a (x ∷ b) = absorbed a x (joined same b) ∙ margin-joined (min_z a (f x)) b

-- ---- agreement in a place

all-agree : (x : Sample) (ts : List Test) → all (agree_on x x) ts ≡ true
all-agree x [] = refl
all-agree x (t ∷ ts) = rw (eq_self (reading_of x t.channel), all-agree x ts)

pub agrees-self : (l : Place) (x : Sample) → agrees l x x ≡ true
unfolding agrees
agrees-self l x = all-agree x (tests_of l)

-- samples that agree have the same distances
agree_distances : (x y : Sample) (ts : List Test) → all (agree_on x y) ts ≡ true → map (distance_in x) ts ≡ map (distance_in y) ts
agree_distances x y [] e = refl
agree_distances x y (t ∷ ts) e =
    let h = both (agree_on x y t) (all (agree_on x y) ts) e in
    ap₂ ◌∷◌ (ap (distance_of t) (eq-true (reading_of x t.channel) (reading_of y t.channel) h.0)) (agree_distances x y ts h.1)

pub agree-worth : (w : Weighing) (l : Place) (x y : Sample) → agrees l x y ≡ true → place_worth w l x ≡ place_worth w l y
unfolding agrees place_worth distances_of
agree-worth w l x y e = ap (combine_all (weighting_of w)) (agree_distances x y (tests_of l) e)

-- and agree with what agrees: what is one with the one is one with the other
agree-alike : (x x' y y' : Sample) (ts : List Test) → all (agree_on x x') ts ≡ true → all (agree_on y y') ts ≡ true
    → all (agree_on x y) ts ≡ all (agree_on x' y') ts
agree-alike x x' y y' [] e g = refl
agree-alike x x' y y' (t ∷ ts) e g =
    let h = both (agree_on x x' t) (all (agree_on x x') ts) e in
    let k = both (agree_on y y' t) (all (agree_on y y') ts) g in
    rw (
      eq-true (reading_of x t.channel) (reading_of x' t.channel) h.0,
      eq-true (reading_of y t.channel) (reading_of y' t.channel) k.0,
      agree-alike x x' y y' ts h.1 k.1,
    )

pub agrees-alike : (l : Place) (x x' y y' : Sample) → agrees l x x' ≡ true → agrees l y y' ≡ true → agrees l x y ≡ agrees l x' y'
unfolding agrees
agrees-alike l x x' y y' e g = agree-alike x x' y y' (tests_of l) e g
