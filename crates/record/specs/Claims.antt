-- What is proved of prices. The proofs are in proofs/.
use Rattle.std.specs.Prelude.{ℕ, ◌+◌, ◌≤◌, ◌<◌, ◌≡◌, ◌⊎◌, Bool, true, false, length, take, drop, ℤ}
use mathlib.Core.List.{List, [], ◌∷◌, ◌++◌, map, flat_map, Memᴰ}
use Rattle.std.proofs.Math.Option.{some}
use Rattle.weighting.specs.declared.Weighing.{Weighing}
use Rattle.weighting.specs.declared.Weighing.TheVariants.{Margin}
use Rattle.weighting.specs.Weighting.{combine_all}
use Rattle.weighting.proofs.Weightings.{margin, weighting_of}
use Rattle.pattern.specs.declared.Sign.TheVariants.{AtMost}
use Rattle.pattern.specs.declared.Guard.{Guard}
use Rattle.pattern.specs.declared.Place.{Place}
use Rattle.pattern.specs.declared.Pattern.{Pattern}
use Rattle.pattern.specs.Kinds.{is_start, is_end}
use Rattle.pattern.specs.InUse.{guards_of, place_at, edge_at}
use Rattle.pattern.specs.Clocks.{Clocks}
use Rattle.pattern.specs.Distance.{Sample, distances_of, place_worth}
use Rattle.record.specs.Record.{Piece, Book, ticks_of}
use Rattle.record.specs.Joined.{joined, fresh_after, agrees}
use Rattle.record.specs.Run.{Step, can_step, is_run, end_of, length_of}
use Rattle.record.specs.Worth.{stay_worth, run_worth, price_of}

-- A piece cut in two, or two neighbours with equal values made one, changes no price.
abbrev pub CutsDoNotMatter : Type 0
CutsDoNotMatter =
    (p : Pattern) (before after : List Piece) (m n : ℕ) (s : Sample) (begin : ℕ) (xs : List Step)
    → price_of p (ticks_of (before ++ record { duration = m + n; sample = s } ∷ after)) begin xs
    ≡ price_of p (ticks_of (before ++ record { duration = m; sample = s } ∷ record { duration = n; sample = s } ∷ after)) begin xs

-- Joining seen tick by tick, by any test of neighbours: the first tick, and then each that is not one with the tick before it.
abbrev pub ObservedInOrder : Type 1
ObservedInOrder =
    (A : Type 0) (same : A → A → Bool) (x : A) (b : List A) → joined same (x ∷ b) ≡ x ∷ fresh_after same x b

-- In margin it makes no difference whether an observation counts once or at each of its ticks: by any test, and any worth of a
-- tick that is the same for ticks that are one.
abbrev pub MarginCountsTicks : Type 1
MarginCountsTicks =
    (A : Type 0) (same : A → A → Bool) (f : A → ℤ) → ((x y : A) → same x y ≡ true → f x ≡ f y)
    → (b : List A) → combine_all margin (map f (joined same b)) ≡ combine_all margin (map f b)

-- Samples that agree in a place are worth the same there.
abbrev pub AgreeingWorths : Type 0
AgreeingWorths = (w : Weighing) (l : Place) (x y : Sample) → agrees l x y ≡ true → place_worth w l x ≡ place_worth w l y

-- Every distance of the steps' stays: of each test of the place that a step leaves, at each tick of its stay.
unfoldable pub distances_in : Pattern → Book → (t : ℕ) → List Step → List ℤ
distances_in p b t [] = []
distances_in p b t (x ∷ xs) =
    flat_map (distances_of (place_at p (edge_at p x.edge).from)) (take x.stay (drop t b)) ++ distances_in p b (t + x.stay) xs

-- In margin a run's price is the least of 2,000,001 (`margin`'s unit) and all of them. In document 01's ranges every distance
-- is at most 2,000,000 (theorem DistancesInRange), so it is the least of them, and 2,000,001 exactly if there is none.
abbrev pub MarginIsLeastDistance : Type 0
MarginIsLeastDistance =
    (p : Pattern) (b : Book) (begin : ℕ) (xs : List Step) (w : ℤ) → p.weighing ≡ Margin
    → price_of p b begin xs ≡ some w → w ≡ combine_all margin (distances_in p b begin xs)

-- Two patterns whose runs are the same: of what a price goes by, they differ at most in the tests of their places.
pub record SameRuns (p q : Pattern) : Type 0 where
  pub weighing : q.weighing ≡ p.weighing
  pub edgecount : q.edgecount ≡ p.edgecount
  pub edges : q.edges ≡ p.edges
  pub kinds : (k : ℕ) → (place_at q k).kind ≡ (place_at p k).kind

-- Only the places that steps of the run leave have a say by their tests.
abbrev pub OnlyPlacesLeftSpeak : Type 0
OnlyPlacesLeftSpeak =
    (p q : Pattern) (b : Book) (begin : ℕ) (xs : List Step) → SameRuns p q
    → ((x : Step) → Memᴰ x xs → place_at q (edge_at p x.edge).from ≡ place_at p (edge_at p x.edge).from)
    → price_of q b begin xs ≡ price_of p b begin xs

-- "The last edge enters an end place at e exactly. No time passes there.": a last step adds its stay in the place that its
-- edge leaves, and nothing for the place that it enters, also where the run stayed in that place before.
abbrev pub EndPlaceIsSilent : Type 0
EndPlaceIsSilent =
    (p : Pattern) (b : Book) (begin : ℕ) (xs : List Step) (x : Step)
    → is_run p (xs ++ (x ∷ [])) ≡ true → end_of begin (xs ++ (x ∷ [])) ≤ length b
    → price_of p b begin (xs ++ (x ∷ []))
    ≡ some
    ((weighting_of p.weighing).combine
    (run_worth p b begin xs)
    (stay_worth p b (edge_at p x.edge).from (end_of begin xs) x.stay))

-- "After a stay every clock is at least 1, so an edge with the guard `(<= 0 0)` is never taken": of any clock that there is,
-- also of one that the edge sets to 0.
abbrev pub ZeroGuardNeverHolds : Type 0
ZeroGuardNeverHolds =
    (p : Pattern) (k : ℕ) (cs : Clocks) (x : Step) (g : Guard) → Memᴰ g (guards_of (edge_at p x.edge))
    → g.sign ≡ AtMost → g.bound ≡ 0 → g.clock < length cs → can_step p k cs x ≡ false

-- A run's length, its end minus its begin, is the sum of its stays.
abbrev pub LengthIsStays : Type 0
LengthIsStays = (begin : ℕ) (xs : List Step) → end_of begin xs ≡ begin + length_of xs

-- "A pattern without a start, an end or an edge .. never has a run."
abbrev pub NeverARun : Type 0
NeverARun =
    (p : Pattern) (xs : List Step)
    → ((k : ℕ) → is_start (place_at p k).kind ≡ false) ⊎ ((k : ℕ) → is_end (place_at p k).kind ≡ false) ⊎ (p.edgecount ≡ 0)
    → is_run p xs ≡ false
