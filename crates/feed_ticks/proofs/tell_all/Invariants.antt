-- The loop has told the first i ticks.
use mathlib.Core.Path.{◌≡◌}
use lib.ListN.{length}
use Rattle.flags.specs.Flags.{Flagged}
use Rattle.feed_ticks.proofs.Told.{Told}
use Rattle.feed_ticks.proofs.tell_all.Given as goal

abbrev pub invariant-loop-i : goal.invariant-loop-i
invariant-loop-i l =
    record {
      told : Told l.g l.v l.u l.initial.first l.initial.scores l.initial.lengths l.duration l.i l.first l.scores l.lengths;
      flags_long : length l.flags ≡ length l.initial.flags;
      flagged : Flagged l.g.layout l.first l.flags;
    }
