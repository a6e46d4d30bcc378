-- One edge more: there is room for it.
use Rattle.std.proofs.Common.{arith, refl}
use borrow.Author.Tests.{lt-ltb}
use Rattle.pattern_lines.specs.Turn.{put_edge}
use Rattle.pattern_lines.proofs.Judgement.{edge_room}
use Rattle.pattern_lines.proofs.add_edge.Goals as goal

pub bounds-p-from : goal.bounds-p-from
bounds-p-from c = rw c.from.ensures (edge_room _ _ _ c.in_ok-edge_verdict.ensures)

pub overflow_add-p : goal.overflow_add-p
overflow_add-p c = let k = edge_room _ _ _ c.in_ok-edge_verdict.ensures in omega arith

pub returns-clause-put : goal.returns-clause-put
unfolding put_edge
returns-clause-put c =
    let k = edge_room _ _ _ c.in_ok-edge_verdict.ensures in
    rw (c.from.ensures, c.edge_of.ensures, lt-ltb c.args.p.now.edgecount 32 k) refl
