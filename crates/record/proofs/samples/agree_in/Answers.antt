use Rattle.std.proofs.Common.{rules, take}
use Rattle.std.proofs.lemmas.Iterator.{YieldsList-from_slice}
use Rattle.std.proofs.lemmas.Iterator.Search.{all_from_yields_List}
use Rattle.record.specs.Joined.{agree_on, agrees}
use Rattle.record.proofs.samples.agree_in.Goals as goal

pub returns : goal.returns
unfolding agrees
returns c =
    let g = c.args in
    all_from_yields_List (agree_on g.a.now g.b.now) _ _ c.all.result c.all.ensures.ran (YieldsList-from_slice (take g.l.count g.l.tests) cc) (λ x b q k. search rules)
