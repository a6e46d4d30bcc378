use Rattle.std.proofs.Common.{◌≡◌, ◌<◌, ◌^◌, take}
use mathlib.Core.List.{flat_map}
use Rattle.pattern.specs.InUse.{guards_of}
use Rattle.pattern.specs.Cells.{bounds_on, largest}
use Rattle.pattern.proofs.clocks.ceiling.Given as goal

abbrev pub invariant-loop-e : goal.invariant-loop-e
invariant-loop-e l =
    record { fits : l.most < 2 ^ 16; is : l.most ≡ largest (bounds_on l.clock (flat_map guards_of (take l.e-index l.e-items))) }
