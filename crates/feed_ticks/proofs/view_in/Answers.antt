use Rattle.std.proofs.Common.{rules, ◌≡◌, Bool, true, false, map, get_or, length, arith, ◌∙◌, sym, ℤ}
use lib.ListN.{length-map, get_or-map}
use Rattle.std.proofs.lemmas.List.{ext_get_or}
use Rattle.pattern.specs.declared.Place.{Place}
use Rattle.pattern.proofs.ListLaws.{made-at}
use Rattle.book.specs.View.{gain_in}
use Rattle.feed_ticks.proofs.Stores.{unset}
use Rattle.feed_ticks.proofs.view_in.Goals as goal

pub returns : goal.returns
returns c =
    let a = c.args in
    let f : Bool → Place → ℤ = λ e l. gain_in a.p.now.weighing l a.last.now a.values.now e in
    let entered_long : length c.from_fn-entered.result ≡ 16 = c.from_fn-entered.ensures.items.long in
    let staying_long : length c.from_fn-staying.result ≡ 16 = c.from_fn-staying.ensures.items.long in
    let places : length a.p.now.places ≡ 16 = omega arith in
    let entered_mapped = length-map a.p.now.places (f true) in
    let staying_mapped = length-map a.p.now.places (f false) in
    let entered : c.from_fn-entered.result ≡ map (f true) a.p.now.places =
    ext_get_or (f true unset) _ _ (omega arith) (λ i l.
    made-at _ (λ k. f true (get_or a.p.now.places k unset)) _ (λ j b q k. search rules) c.from_fn-entered.result 16 0 i (f true unset) c.from_fn-entered.ensures.items.each (omega arith) (omega arith)
    ∙ sym (get_or-map (f true) a.p.now.places i unset)) in
    let staying : c.from_fn-staying.result ≡ map (f false) a.p.now.places =
    ext_get_or (f false unset) _ _ (omega arith) (λ i l.
    made-at _ (λ k. f false (get_or a.p.now.places k unset)) _ (λ j b q k. search rules) c.from_fn-staying.result 16 0 i (f false unset) c.from_fn-staying.ensures.items.each (omega arith) (omega arith)
    ∙ sym (get_or-map (f false) a.p.now.places i unset)) in
    λ z. record { entered = entered z; staying = staying z }
