-- The reports are looked at one by one.
use Rattle.std.proofs.Common.{◌≡◌, ◌-◌}
use Rattle.std.specs.Iterator.Adapters.{zip_first, zip_second}
use Rattle.std.specs.Slice.Iter.{iter_rest}
use Rattle.best.specs.Search.{chosen_in, chosen_past}
use Rattle.best.proofs.Reports.{Left}
use Rattle.best.proofs.choose_all.Given as goal

abbrev pub invariant-loop-tick : goal.invariant-loop-tick
invariant-loop-tick l =
    let it = l.tick-iterator in
    let range = zip_first (zip_first it) in
    Left l.ticks l.count l.scores l.lengths range.start range.end (iter_rest (zip_second (zip_first it))) (iter_rest (zip_second it))
    × (chosen_in l.best ≡ chosen_past l.p (chosen_in l.fn.so_far) l.ticks l.scores l.lengths (range.start - l.ticks))
