-- What functions ask and promise of a stay as the code holds it together.
use Rattle.std.specs.Prelude.{ℕ, Bool, ℤ}
use Rattle.pattern.specs.Distance.{Sample}
use Rattle.record.specs.Record.{sample_at}
use Rattle.price_stays.specs.declared.Stay.{Stay}
use Rattle.price_stays.specs.declared.Walk.{Walk}
use Rattle.price_stays.specs.Walk.{joins_to, seen_at, with_piece, Observes, Walks, Turned}

abbrev pub sample_in : Stay → (piece : ℕ) → Sample
sample_in c i = sample_at c.channels c.lent.values.now i

abbrev pub joins_in : Stay → (piece : ℕ) → Bool
joins_in c i = joins_to c.place (seen_at c.channels c.lent.values.now c.first i) (sample_in c i)

abbrev pub worth_in : Stay → (piece : ℕ) → (worth : ℤ) → ℤ
worth_in c i a = with_piece c.weighing c.place c.channels c.lent.values.now c.first i a

abbrev pub ObservesIn : Stay → (piece : ℕ) → (worth : ℤ) → Type 0
ObservesIn c i a = Observes c.weighing c.place c.channels c.lent.values.now i a

abbrev pub WalksIn : Stay → Walk → Type 0
WalksIn c s = Walks c.weighing c.place c.channels c.lent.durations.now c.lent.values.now c.first s

abbrev pub TurnedIn : Stay → Walk → Walk → Type 0
TurnedIn c s r = Turned c.weighing c.place c.channels c.lent.durations.now c.lent.values.now c.first s r
