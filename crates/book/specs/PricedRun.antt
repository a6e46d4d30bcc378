-- A run on a book, as it is priced (document 01, 'Record and run'): clocks have no ceiling, stays may be of any length. Demand
-- 3 speaks of these runs.
use Rattle.std.specs.Prelude.{ℕ, ◌+◌, ◌≡◌, List, ℤ}
use Rattle.std.proofs.Math.Option.{some}
use Rattle.pattern.specs.declared.Pattern.{Pattern}
use Rattle.record.specs.Record.{Book}
use Rattle.record.specs.Run.{Step, length_of}
use Rattle.record.specs.Worth.{price_of}

-- "A run over begin b to end e has one or more steps": steps that are a run from begin to end in the book, of this worth.
-- "A run's length is its end minus its begin."
pub record PricedRun (p : Pattern) (b : Book) (begin end len : ℕ) (w : ℤ) : Type 0 where
  pub steps : List Step
  pub price : price_of p b begin steps ≡ some w
  pub lasts : length_of steps ≡ len
  pub ends : begin + len ≡ end
