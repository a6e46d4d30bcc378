-- The radices come in the clocks' order.
use Rattle.std.proofs.Common.{rules, ◌*◌, refl}
use Rattle.std.proofs.lemmas.Iterator.{YieldsList-from_range, YieldsList-from_map}
use Rattle.std.proofs.lemmas.Iterator.Adapters.{total_from_yields_List}
use Rattle.pattern.specs.Cells.{radix_of, radix_product}
use Rattle.pattern.proofs.CellLaws.{radices_fit}
use Rattle.pattern.proofs.radices.Goals as goal

pub product-requires-clause-fits : goal.product-requires-clause-fits
product-requires-clause-fits c =
    radices_fit c.args.p (rw c.p.view_is at c.p.invariant)
    (YieldsList-from_map _ (radix_of c.args.p) (YieldsList-from_range 0 4 4 c.map.ensures.source refl) c.map.ensures.closure
    (λ x r q k. search rules))

pub returns : goal.returns
unfolding radix_product
returns c =
    total_from_yields_List (λ a x. a * x) 1 _ c.product.ensures.ran
    (YieldsList-from_map _ (radix_of c.args.p) (YieldsList-from_range 0 4 4 c.map.ensures.source refl) c.map.ensures.closure
    (λ x r q k. search rules))
