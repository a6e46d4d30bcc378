-- What joining by place has in common with joining by whole samples, as source 000 has it (document 02, R-3). Nothing here is part
-- of the meaning. Proved in proofs/AsBefore.
use Rattle.std.specs.Prelude.{ℕ, ◌+◌, ◌≡◌, List, [], ◌∷◌, map, Bool, true, false, cond, ◌&&◌, eqb, leb, length, take, drop, ℤ}
use Rattle.std.proofs.Math.Option.{Option, none, some}
use Rattle.integers.specs.Equal.{eq_z}
use Rattle.weighting.specs.declared.Weighing.TheVariants.{Margin}
use Rattle.weighting.specs.Weighting.{combine_all}
use Rattle.weighting.proofs.Weightings.{weighting_of}
use Rattle.pattern.specs.declared.Pattern.{Pattern}
use Rattle.pattern.specs.Slots.{all}
use Rattle.pattern.specs.Sound.{sound_of}
use Rattle.pattern.specs.InUse.{place_at, edge_at}
use Rattle.pattern.specs.Distance.{Sample, place_worth}
use Rattle.record.specs.Record.{Book}
use Rattle.record.specs.Joined.{joined}
use Rattle.record.specs.Run.{Step, is_run, length_of}
use Rattle.record.specs.Worth.{stay_worth, price_of}

-- ---- on whole samples

-- Equal in every channel (source 000, definition 2).
unfoldable pub same_sample : Sample → Sample → Bool
same_sample [] [] = true
same_sample [] (y ∷ ys) = false
same_sample (x ∷ xs) [] = false
same_sample (x ∷ xs) (y ∷ ys) = eq_z x y && same_sample xs ys

-- A stay, the stays of a run and its price, as Worth has them, but for the test of neighbours.
abbrev pub whole_stay : Pattern → Book → (place t n : ℕ) → ℤ
whole_stay p b k t n =
    combine_all (weighting_of p.weighing) (map (place_worth p.weighing (place_at p k)) (joined same_sample (take n (drop t b))))

unfoldable pub whole_stays : Pattern → Book → (t : ℕ) → List Step → List ℤ
whole_stays p b t [] = []
whole_stays p b t (x ∷ xs) = whole_stay p b (edge_at p x.edge).from t x.stay ∷ whole_stays p b (t + x.stay) xs

abbrev pub whole_price : Pattern → Book → (begin : ℕ) → List Step → Option ℤ
whole_price p b begin xs =
    cond (is_run p xs && leb (begin + length_of xs) (length b)) (some (combine_all (weighting_of p.weighing) (whole_stays p b begin xs))) none

-- ---- what comes out as before

-- Every stay on a book, of which prices and cells are made, and every price.
pub record AsBefore (p : Pattern) (b : Book) : Type 0 where
  pub stays : (k t n : ℕ) → stay_worth p b k t n ≡ whole_stay p b k t n
  pub prices : (begin : ℕ) (xs : List Step) → price_of p b begin xs ≡ whole_price p b begin xs

-- Theorem: in margin.
abbrev pub MarginsAsBefore : Type 0
MarginsAsBefore = (p : Pattern) (b : Book) → p.weighing ≡ Margin → AsBefore p b

-- Theorem: with one channel, in both weightings.
abbrev pub OneChannelAsBefore : Type 0
OneChannelAsBefore =
    (p : Pattern) (b : Book) → sound_of p ≡ true → p.channels ≡ 1 → all (λ s. eqb (length s) 1) b ≡ true → AsBefore p b
