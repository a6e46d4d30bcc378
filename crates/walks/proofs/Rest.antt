-- What is still to come of a run that stands at s at time n: the steps xs, whose ticks gain gs. It may end at once only
-- if its place was entered just now.
use mathlib.Core.Path.{◌≡◌}
use mathlib.Core.Bool.{true, cond}
use mathlib.Core.Option.{some}
use mathlib.Core.List.{List}
use Prim.Native.Nat.{ℕ}
use lib.Dec.{T}
use Rattle.walks.specs.Automaton.{Automaton, View, State}
use Rattle.walks.specs.Runs.{Step, Goes, non_empty}
use Rattle.walks.proofs.Gains.{gains}

pub record Rest {W C E : Type 0} (A : Automaton C E) (𝓥 : View W) (n : ℕ) (s : State C) (xs : List (Step E)) (gs : List W) : Type 0 where
  pub goes : Goes A s.place s.clocks xs
  pub may_end : T (cond s.entered true (non_empty xs))
  pub gained : gains A 𝓥 s.entered n xs ≡ some gs
