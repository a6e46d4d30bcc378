-- `links_of` goes from the last edge to the first, and puts each before the list of its place.
use native.Mathlib.Omega.{arith}
use mathlib.Core.Path.{◌≡◌}
use Rattle.table.proofs.Linking.{links_none, links_more, links_all}
use Rattle.table.proofs.links_of.Goals as goal

pub loop-i-init : goal.loop-i-init
loop-i-init c = links_none c.args.edges c.args.count

pub loop-i-preserved : goal.loop-i-preserved
loop-i-preserved c =
    let l = c.loop-i in
    links_more c.args.edges c.args.count l.i _ l.firsts l.nexts c.requires c.loop-i-test.true l.auto.i c.from-place.ensures l.invariant

pub returns : goal.returns
returns c =
    let l = c.loop-i in
    let e : l.i ≡ 0 = omega arith in
    links_all c.args.edges c.args.count _ (rw e at l.invariant)
