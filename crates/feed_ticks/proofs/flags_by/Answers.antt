use Rattle.std.proofs.Common.{rules, ◌≡◌, Bool, get_or, length, arith, ◌∙◌, sym}
use lib.ListN.{length-map, get_or-map}
use Rattle.std.proofs.lemmas.List.{ext_get_or}
use Rattle.pattern.specs.declared.Place.{Place}
use Rattle.feed_ticks.proofs.Stores.{unset}
use Rattle.pattern.proofs.ListLaws.{made-at}
use Rattle.feed_ticks.proofs.flags_by.Goals as goal

pub returns : goal.returns
returns g c = λ f is.
    let a = c.args in
    let at : Place → Bool = λ l. f l.kind in
    let long : length c.from_fn.result ≡ 16 = c.from_fn.ensures.items.long in
    let places : length a.p.now.places ≡ 16 = omega arith in
    let mapped = length-map a.p.now.places at in
    ext_get_or (at unset) _ _ (omega arith) (λ i l.
    made-at _ (λ k. at (get_or a.p.now.places k unset)) _ (λ j b q k. search (is, rules)) c.from_fn.result 16 0 i (at unset) c.from_fn.ensures.items.each (omega arith) (omega arith)
    ∙ sym (get_or-map at a.p.now.places i unset))
