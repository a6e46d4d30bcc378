use Rattle.std.proofs.Common.{rules, take}
use Rattle.std.proofs.lemmas.Iterator.{YieldsList-from_slice}
use Rattle.std.proofs.lemmas.Iterator.Search.{all_from_yields_List}
use Rattle.pattern.specs.Clocks.{guard_holds, guards_hold}
use Rattle.pattern.proofs.clocks.guards_hold.Goals as goal

pub returns : goal.returns
unfolding guards_hold
returns c =
    all_from_yields_List (guard_holds c.args.clocks) _ _ c.all.result c.all.ensures.ran (YieldsList-from_slice (take c.args.e.count c.args.e.guards) cc) (λ x b q k. search rules)
