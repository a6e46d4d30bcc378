-- `raise_starts` goes place by place.
use mathlib.Core.Path.{◌≡◌}
use lib.ListN.{length}
use Rattle.flags.specs.Flags.{start_flags}
use Rattle.flags.proofs.raise_starts.Given as goal

abbrev pub invariant-loop-p : goal.invariant-loop-p
invariant-loop-p l = (length l.flags ≡ length l.initial.flags) × (l.flags ≡ start_flags l.fn.starts l.p l.initial.flags)
