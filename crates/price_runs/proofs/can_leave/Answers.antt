-- `can_leave` is the test of an edge: place, stay, guards.
use Rattle.price_runs.proofs.can_leave.Goals as goal

pub returns : goal.returns
returns c = rw c.guards_hold.ensures
