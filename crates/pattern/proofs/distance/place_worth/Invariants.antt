use Rattle.std.proofs.Common.{◌≡◌, ◌+◌, ◌*◌, ◌^◌, ◌≤◌, nat_abs}
use Rattle.pattern.proofs.DistanceLaws.{worth_to}
use Rattle.pattern.proofs.distance.place_worth.Given as goal

abbrev pub invariant-loop-t : goal.invariant-loop-t
invariant-loop-t l =
    record {
      is : l.worth ≡ worth_to l.w l.sample l.t-items l.t-index;
      size : nat_abs (worth_to l.w l.sample l.t-items l.t-index) ≤ 2000001 + 2 ^ 32 * l.t-index;
    }
