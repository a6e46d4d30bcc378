-- `run` makes step after step: what will come of those left is what will come of all.
use Rattle.std.proofs.Common.{◌≡◌, List, ◌++◌, Some}
use Rattle.std.specs.Iterator.Adapters.{zip_first, zip_second}
use Rattle.std.specs.Slice.Iter.{iter_rest}
use Rattle.record.specs.Run.{Step, steps_of}
use Rattle.price_runs.specs.Stand.{outcome, Held}
use Rattle.price_runs.proofs.Course.run.Given as goal

abbrev pub invariant-loop-edge : goal.invariant-loop-edge
invariant-loop-edge l =
    record {
      held : Held l.self.pattern l.self.lent.durations.now l.self.lent.values.now l.at;
      same : (ys : List Step)
          → outcome l.self.pattern l.self.lent.durations.now l.self.lent.values.now (Some l.at) (steps_of (iter_rest (zip_first l.edge-iterator)) (iter_rest (zip_second l.edge-iterator)) ++ ys)
          ≡ outcome l.self.pattern l.self.lent.durations.now l.self.lent.values.now (Some l.initial.at) (steps_of l.edges l.stays ++ ys);
    }
