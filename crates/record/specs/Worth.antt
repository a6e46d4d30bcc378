-- What a stay and a run are worth (document 01, 'Record and run'; in sum by document 02, R-3, which prevails; source 000,
-- definition 7 and example 8, whose sum has a slip in its index and says the margin where it means the sum).
use Rattle.std.specs.Prelude.{ℕ, ◌+◌, List, [], ◌∷◌, map, cond, ◌&&◌, leb, length, ℤ}
use Rattle.std.proofs.Math.Option.{Option, none, some}
use Rattle.weighting.specs.Weighting.{combine_all}
use Rattle.weighting.proofs.Weightings.{weighting_of}
use Rattle.pattern.specs.declared.Pattern.{Pattern}
use Rattle.pattern.specs.InUse.{place_at, edge_at}
use Rattle.pattern.specs.Distance.{place_worth}
use Rattle.record.specs.Record.{Book}
use Rattle.record.specs.Joined.{observed}
use Rattle.record.specs.Run.{Step, is_run, length_of}

-- A stay of n ticks in a place from time t: in margin the least distance over its tests and what it observes; in sum the
-- distances of all its tests added up, once for each observation. Without tests that is the unit: 2,000,001 or 0.
unfoldable pub stay_worth : Pattern → Book → (place t n : ℕ) → ℤ
stay_worth p b k t n = combine_all (weighting_of p.weighing) (map (place_worth p.weighing (place_at p k)) (observed (place_at p k) b t n))

-- The stays of a run that begins its first at time t. A stay is in the place that its edge leaves, so the place that the
-- last edge enters has no say.
unfoldable pub stay_worths : Pattern → Book → (t : ℕ) → List Step → List ℤ
stay_worths p b t [] = []
stay_worths p b t (x ∷ xs) = stay_worth p b (edge_at p x.edge).from t x.stay ∷ stay_worths p b (t + x.stay) xs

-- "and a run the least of its stays"; "a run adds its stays"
unfoldable pub run_worth : Pattern → Book → (begin : ℕ) → List Step → ℤ
run_worth p b begin xs = combine_all (weighting_of p.weighing) (stay_worths p b begin xs)

-- "A run is priced from any begin inside the record. The window does not count in pricing." None if the steps "are not a
-- run, or pass the record's end".
unfoldable pub price_of : Pattern → Book → (begin : ℕ) → List Step → Option ℤ
price_of p b begin xs =
    cond (is_run p xs && leb (begin + length_of xs) (length b)) (some (run_worth p b begin xs)) none
