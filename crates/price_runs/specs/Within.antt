-- What functions ask and promise of a run on a course.
use Rattle.std.specs.Prelude.{List, Option, ℤ}
use Rattle.std.proofs.Math.Option as plain
use Rattle.record.specs.Record.{Book, book_of}
use Rattle.record.specs.Run.{Step}
use Rattle.price_runs.specs.declared.Course.{Course}
use Rattle.price_runs.specs.declared.Stand.{Stand}
use Rattle.price_runs.specs.Stand.{outcome, Held, Stepped, Ran}

abbrev pub book_in : Course → Book
book_in c = book_of c.pattern.channels c.lent.durations.now c.lent.values.now

abbrev pub outcome_in : Course → Option Stand → List Step → plain.Option ℤ
outcome_in c s xs = outcome c.pattern c.lent.durations.now c.lent.values.now s xs

abbrev pub HeldIn : Course → Stand → Type 0
HeldIn c s = Held c.pattern c.lent.durations.now c.lent.values.now s

abbrev pub SteppedIn : Course → Stand → Step → Option Stand → Type 0
SteppedIn c s x r = Stepped c.pattern c.lent.durations.now c.lent.values.now s x r

abbrev pub RanIn : Course → Stand → List Step → Option Stand → Type 0
RanIn c s xs r = Ran c.pattern c.lent.durations.now c.lent.values.now s xs r
