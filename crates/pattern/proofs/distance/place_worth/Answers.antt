use Rattle.std.proofs.Common.{◌≡◌, ◌+◌, ◌*◌, ◌^◌, ◌≤◌, ◌∙◌, ℤ, nat_abs, length, arith, to_z, of_z}
use Rattle.std.specs.Int.{w64}
use mathlib.Core.Path.{subst}
use lib.Dec.{lit<}
use Rattle.std.proofs.lemmas.List.{length-take, take_all}
use mir.Facts.{to_z-of_z}
use Rattle.integers.proofs.Ranges.{abs_fits_64}
use Rattle.weighting.proofs.Weightings.{weighting_of}
use Rattle.weighting.proofs.Sizes.{unit_size, combine-size}
use Rattle.pattern.specs.Distance.{distances_of, place_worth}
use Rattle.pattern.proofs.DistanceLaws.{worth_to, worth-none, worth-more}
use Rattle.pattern.proofs.distance.place_worth.Goals.{After-distance_in}
use Rattle.pattern.proofs.distance.place_worth.Goals as goal

pub loop-t-init : goal.loop-t-init
loop-t-init c =
    let a = c.args in
    let none = worth-none a.w a.sample.now c.in_use-t-items.result.now in
    record { is = to_z-of_z {w = w64} (record { sfits = c.unit-worth.type_inv }) ∙ c.unit-worth.ensures ∙ none; size = rw (← none) (omega (arith, unit_size a.w)) }

-- the worth with one test more, and its size
next_size : (c : After-distance_in)
    → nat_abs ((weighting_of c.args.w).combine (worth_to c.args.w c.args.sample.now c.in_use-t-items.result.now c.loop-t.t-index) c.distance_in.result) ≤ 2000001 + 2 ^ 32 * (c.loop-t.t-index + 1)
next_size c =
    let k = c.distance_in.ensures.size in
    omega (arith, combine-size c.args.w (worth_to c.args.w c.args.sample.now c.in_use-t-items.result.now c.loop-t.t-index) c.distance_in.result)

pub combine-worth-requires : goal.combine-worth-requires
combine-worth-requires c =
    let back : to_z w64 (of_z w64 c.distance_in.result) ≡ c.distance_in.result = to_z-of_z {w = w64} (record { sfits = c.distance_in.type_inv }) in
    let few : length c.in_use-t-items.result.now ≤ 255 = rw c.in_use-t-items.ensures (omega (arith, length-take c.args.l.count c.args.l.tests)) in
    rw (c.loop-t.invariant.is, back) (abs_fits_64 _ (2 ^ 41) (omega (arith, next_size c)) (lit< tt))

pub loop-t-preserved : goal.loop-t-preserved
loop-t-preserved c =
    let l = c.loop-t in
    let a = c.args in
    let ts = c.in_use-t-items.result.now in
    let worth = worth_to a.w a.sample.now ts l.t-index in
    let next : (weighting_of a.w).combine worth c.distance_in.result ≡ worth_to a.w a.sample.now ts (l.t-index + 1) =
    rw c.distance_in.ensures.is (worth-more a.w a.sample.now ts l.t-index _ (omega arith)) in
    let back : to_z w64 (of_z w64 c.distance_in.result) ≡ c.distance_in.result = to_z-of_z {w = w64} (record { sfits = c.distance_in.type_inv }) in
    let got : c.combine-worth.result ≡ (weighting_of a.w).combine worth c.distance_in.result =
    simp (l.invariant.is, back) at c.combine-worth.ensures in
    let kept : to_z w64 (of_z w64 c.combine-worth.result) ≡ c.combine-worth.result = to_z-of_z {w = w64} (record { sfits = c.combine-worth.type_inv }) in
    record { is = kept ∙ got ∙ next; size = subst (λ (z : ℤ). nat_abs z ≤ 2000001 + 2 ^ 32 * (l.t-index + 1)) next (next_size c.before) }

pub returns : goal.returns
unfolding place_worth distances_of worth_to
returns c =
    rw (c.loop-t.invariant.is, take_all c.loop-t.t-index c.in_use-t-items.result.now (omega arith), c.in_use-t-items.ensures)
