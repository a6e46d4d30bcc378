-- `read_parts` meets its contract: the parts that are left, added to those so far, give the same.
use Rattle.std.proofs.Common.{◌≡◌, length}
use Rattle.line_lists.specs.Lists.{no_parts, with_part}
use Rattle.line_lists.proofs.Gather.{all_read, gather}
use Rattle.line_lists.proofs.read_parts.Given as goal

abbrev pub invariant-loop-part : goal.invariant-loop-part
invariant-loop-part g l =
    let add = with_part g.T.Part.in_range (g.T.Part.known l.count) in
    gather add (no_parts g.row.N g.T.Part.unused) (all_read g.T.Part.reads l.text) ≡ gather add l.all (all_read g.T.Part.reads l.rest)

abbrev pub decreases-loop-part : goal.decreases-loop-part
decreases-loop-part g l = length l.rest
