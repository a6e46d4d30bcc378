-- How the code goes through a run, step by step. No promise of a public operation speaks of this.
use Rattle.std.specs.Prelude.{ℕ, ◌+◌, ◌*◌, ◌^◌, ◌≤◌, ◌<◌, ◌≡◌, List, [], ◌∷◌, ◌++◌, map, Bool, true, cond, ◌&&◌, eqb, leb, length, take, drop, ℤ, nat_abs}
use Rattle.std.specs.Prelude as rust
use Rattle.std.specs.Prelude.{Some, None, IfSome}
use Rattle.std.proofs.Math.Option.{Option, none, some}
use Rattle.weighting.specs.Weighting.{combine_from}
use Rattle.weighting.proofs.Weightings.{weighting_of}
use Rattle.pattern.specs.declared.Edge.{Edge}
use Rattle.pattern.specs.declared.Pattern.{Pattern}
use Rattle.pattern.specs.InUse.{place_at, edge_at}
use Rattle.pattern.specs.Kinds.{is_end}
use Rattle.pattern.specs.Clocks.{Clocks, clock_at, guards_hold}
use Rattle.pattern.specs.Distance.{place_worth}
use Rattle.price_runs.specs.declared.Stand.{Stand}
use Rattle.record.specs.Record.{Book}
use Rattle.record.specs.Joined.{agrees, joined}
use Rattle.record.specs.Run.{Step, can_step, clocks_after}
use Rattle.price_stays.specs.Walk.{Stands, ahead}

-- The clocks can grow by n and stay below 2^32.
abbrev pub Room : Clocks → ℕ → Type 0
Room cs n = (k : ℕ) → clock_at cs k + n < 2 ^ 32

-- An edge can be taken out of a place after a stay, the clocks having grown with it.
abbrev pub can_leave : Edge → (place stay : ℕ) → Clocks → Bool
can_leave e k n cs = eqb e.from k && leb 1 n && guards_hold cs e

-- What steps come to from a place on, with the worth so far and the ticks that lie ahead.
unfoldable pub score_from : Pattern → Book → (worth : ℤ) → (place : ℕ) → Clocks → List Step → Option ℤ
score_from p b a k cs [] = cond (is_end (place_at p k).kind) (some a) none
score_from p b a k cs (x ∷ xs) =
    cond (can_step p k cs x && leb x.stay (length b))
    (score_from p (drop x.stay b)
    (combine_from (weighting_of p.weighing) a (map (place_worth p.weighing (place_at p (edge_at p x.edge).from)) (joined (agrees (place_at p (edge_at p x.edge).from)) (take x.stay b))))
    (edge_at p x.edge).to
    (clocks_after p cs x)
    xs)
    none

-- The same from where the code stands, if the run goes on.
unfoldable pub outcome : Pattern → (durations : List ℕ) → (values : List ℤ) → rust.Option Stand → List Step → Option ℤ
outcome p ds vs None xs = none
outcome p ds vs (Some s) xs = score_from p (ahead p.channels ds vs s.piece s.used) s.worth s.place s.clocks xs

-- What holds between the steps of a course. No clock is past the ticks so far, and each tick so far brought at most one observation.
pub record Held (p : Pattern) (durations : List ℕ) (values : List ℤ) (s : Stand) : Type 0 where
  pub stands : Stands durations s.piece s.used
  pub left : s.left ≡ length (ahead p.channels durations values s.piece s.used)
  pub clocks : (k : ℕ) → clock_at s.clocks k + s.left ≤ 2_147_483_647
  pub size : nat_abs s.worth + 8_000_000 * s.left ≤ 2 ^ 60

-- From s by a step: to r if it can be made, and r is none if it cannot. The outcome of the steps that follow is that of all steps
-- from s.
pub record Stepped (p : Pattern) (durations : List ℕ) (values : List ℤ) (s : Stand) (x : Step) (r : rust.Option Stand) : Type 0 where
  pub held : IfSome r (Held p durations values)
  pub same : (xs : List Step) → outcome p durations values r xs ≡ outcome p durations values (Some s) (x ∷ xs)

-- The same by many steps.
pub record Ran (p : Pattern) (durations : List ℕ) (values : List ℤ) (s : Stand) (xs : List Step) (r : rust.Option Stand) : Type 0 where
  pub held : IfSome r (Held p durations values)
  pub same : (ys : List Step) → outcome p durations values r ys ≡ outcome p durations values (Some s) (xs ++ ys)
