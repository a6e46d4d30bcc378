use mathlib.Core.Path.{◌≡◌, ap, ◌∙◌}
use mir.Syntax.{w32, w64}
use mir.Val.{SFits, to_z, of_z}
use mir.Facts.{to_z-of_z}
use Rattle.pattern.specs.Distance.{distance_of}
use Rattle.pattern.proofs.DistanceLaws.{distance_size}
use Rattle.pattern.proofs.distance.distance_in.Goals as goal

pub returns : goal.returns
returns c =
    let s = c in
    let t = s.args.t in
    let v = c.reading.result in
    let v-fits : SFits w32 v = record { sfits = c.reading.type_inv } in
    let b-fits : SFits w32 t.bound = record { sfits = s.well_formed.0.1.1.1.1.1.0.1 } in
    let h_fits : SFits w32 t.high = record { sfits = s.well_formed.0.1.1.1.1.1.1.0.1 } in
    let r-is : c.distance.result ≡ distance_of t v = c.distance.ensures ∙ ap (distance_of t) (to_z-of_z v-fits) in
    let back : to_z w64 (of_z w64 c.distance.result) ≡ c.distance.result = to_z-of_z {w = w64} (record { sfits = c.distance.type_inv }) in
    rw (back, r-is) (record { is = ap (distance_of t) c.reading.ensures; size = distance_size t v v-fits b-fits h_fits })
