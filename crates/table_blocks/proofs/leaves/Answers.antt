-- `leaves` goes along the edges out of a place by their links: the others would send nothing.
use Prim.Native.Nat.{◌+◌, ◌*◌}
use native.Mathlib.Omega.{arith}
use mathlib.Core.Path.{refl, ◌∙◌}
use Rattle.steps.specs.Steps.{edge_in}
use Rattle.table.specs.Edges.{Hop}
use Rattle.table.proofs.Steps.{hop_more, hop_all, rest_end, leave_is, leave_no}
use Rattle.table.proofs.Told.{told_is, told_no}
use Rattle.flags.proofs.Flags.{grown-refl, grown-trans}
use Rattle.table.proofs.Kept.{Kept, kept_refl, kept_trans, turn-kept}
use Rattle.table_blocks.proofs.leaves.Goals as goal

pub loop-i-init : goal.loop-i-init
loop-i-init c =
    let g = c.args.g.now in
    let few = g.laid.few in
    let hop : Hop g.edges g.count c.args.p 0 c.from-i.result = rw c.from-i.ensures (g.linked.firsts c.args.p (let h = c.requires.1 in omega arith)) in
    record { low = hop.below; source = hop.lands; kept = kept_refl _ _; moves = refl; tells = refl; grown = grown-refl c.requires.2 }

pub loop-i-preserved : goal.loop-i-preserved
loop-i-preserved c =
    let a = c.args in
    let g = a.g.now in
    let m = c.loop-i in
    let s = a.sent in
    let from = m.invariant.source (omega arith) in
    let hop : Hop g.edges g.count a.p (m.i + 1) c.from-i-in-loop-i.result = rw c.from-i-in-loop-i.ensures (rw from at (g.linked.nexts m.i (omega arith))) in
    let u = c.leave-best.new.table in
    let e = c.leave-best.ensures.table_after in
    let f = c.leave-best.ensures.value in
    let k : Kept ((a.n + 1) * g.layout.row) m.table u = rw e (turn-kept g.layout g.weighing a.n (edge_in g.edges m.i) 0 s.clocks _ m.table) in
    record {
      low = hop.below;
      source = hop.lands;
      kept = kept_trans m.invariant.kept k;
      moves = hop_more _ g.edges g.count a.p (λ j z o. leave_no g.layout g.weighing a.n a.p s.clocks _ (edge_in g.edges j) z o) m.i _ m.table u _ (omega arith) hop (e ∙ leave_is g.layout g.weighing a.n a.p s.clocks _ (edge_in g.edges m.i) m.table from) m.invariant.moves;
      tells = hop_more _ g.edges g.count a.p (λ j z o. told_no g.weighing a.tells.now a.n a.p s.clocks _ (edge_in g.edges j) z o) m.i _ m.best _ _ (omega arith) hop (f ∙ told_is g.weighing a.tells.now a.n a.p s.clocks _ (edge_in g.edges m.i) m.best from) m.invariant.tells;
      grown = grown-trans m.invariant.grown c.leave-best.ensures.grown;
    }

pub returns : goal.returns
returns c =
    let a = c.args in
    let g = a.g.now in
    let m = c.loop-i in
    let s = a.sent in
    let few = g.laid.few in
    let hop : Hop g.edges g.count a.p 0 c.from-i.result = rw c.from-i.ensures (g.linked.firsts a.p (let h = c.requires.1 in omega arith)) in
    let t = rest_end _ m.i _ m.table _ (omega arith) m.invariant.moves in
    let r = rest_end _ m.i _ m.best _ (omega arith) m.invariant.tells in
    record {
      value = r ∙ hop_all _ g.edges g.count a.p (λ j z o. told_no g.weighing a.tells.now a.n a.p s.clocks s.worth (edge_in g.edges j) z o) _ _ hop;
      table_after = t ∙ hop_all _ g.edges g.count a.p (λ j z o. leave_no g.layout g.weighing a.n a.p s.clocks s.worth (edge_in g.edges j) z o) _ _ hop;
      grown = m.invariant.grown;
    }
