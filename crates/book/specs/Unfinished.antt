-- Unfinished runs on a book (document 01, 'Monitor tables': "all unfinished runs in that state now, the present stay
-- included"), from the steps and stays by which runs are priced. Clocks have no ceiling, stays may be of any length.
use Rattle.std.specs.Prelude.{ℕ, ◌+◌, ◌≡◌, List, [], ◌∷◌, ◌++◌, true, cond, eqb, ℤ}
use Rattle.std.proofs.Math.Option.{Option, none, some}
use Rattle.weighting.specs.Weighting.{combine_all}
use Rattle.weighting.proofs.Weightings.{weighting_of}
use Rattle.pattern.specs.declared.Pattern.{Pattern}
use Rattle.pattern.specs.InUse.{place_at, edge_at}
use Rattle.pattern.specs.Kinds.{is_start}
use Rattle.pattern.specs.Clocks.{Clocks, zero_clocks, later}
use Rattle.record.specs.Record.{Book}
use Rattle.record.specs.Run.{Step, can_step, clocks_after, length_of}
use Rattle.record.specs.Worth.{stay_worth, stay_worths}
use Rattle.walks.specs.Automaton.{State}

-- Where steps lead, made one after the other from a place with the clocks as they were on entering it: the place entered
-- last, and the clocks on entering that. None if one of the steps cannot be made.
unfoldable pub led_to : Pattern → (place : ℕ) → Clocks → List Step → Option (ℕ × Clocks)
led_to p k cs [] = some (k, cs)
led_to p k cs (x ∷ xs) = cond (can_step p k cs x) (led_to p (edge_at p x.edge).to (clocks_after p cs x) xs) none

-- "length so far, stage (0 just entered, 1 staying), place, clock 0, clock 1 and on": after the steps, n ticks into the
-- present stay.
abbrev pub standing : List Step → ℕ × Clocks → (n : ℕ) → State Clocks
standing xs there n =
    record { len = length_of xs + n; entered = eqb n 0; place = there.0; clocks = later n there.1 }

-- What it is worth: the stays that were left, and the present one in the place k. A stay of 0 ticks observes nothing, so
-- the empty run is worth the unit, "0 in sum, 2,000,001 in margin".
unfoldable pub worth_so_far : Pattern → Book → (begin : ℕ) → List Step → (k n : ℕ) → ℤ
worth_so_far p b begin xs k n =
    combine_all (weighting_of p.weighing) (stay_worths p b begin xs ++ (stay_worth p b k (begin + length_of xs) n ∷ []))

-- An unfinished run that is in the state s at the time `now`, worth w. "It enters a start place at b, all clocks 0"; then
-- come its steps, none or more; then its present stay, of no tick if the place was entered just now.
pub record Unfinished (p : Pattern) (b : Book) (now : ℕ) (s : State Clocks) (w : ℤ) : Type 0 where
  pub begin : ℕ
  pub first : ℕ
  pub starts : is_start (place_at p first).kind ≡ true
  pub steps : List Step
  pub there : ℕ × Clocks
  pub leads : led_to p first zero_clocks steps ≡ some there
  pub stay : ℕ
  pub lasts : begin + (length_of steps + stay) ≡ now
  pub state : standing steps there stay ≡ s
  pub is_worth : worth_so_far p b begin steps there.0 stay ≡ w
