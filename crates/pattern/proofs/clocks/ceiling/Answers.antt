use Rattle.std.proofs.Common.{arith, ◌∙◌, refl}
use mathlib.Core.List.{flat_map}
use lib.Seq.{take_all}
use Rattle.pattern.specs.Cells.{bounds_on, largest, ceiling_of}
use Rattle.pattern.proofs.CeilingLaws.{edge_more}
use Rattle.pattern.proofs.clocks.ceiling.Goals as goal

pub loop-e-init : goal.loop-e-init
unfolding bounds_on largest flat_map
loop-e-init c = record { fits = omega arith; is = refl }

pub loop-e-preserved : goal.loop-e-preserved
loop-e-preserved c =
    let l = c.loop-e in
    record {
      fits = c.largest_bound-most.type_inv;
      is = c.largest_bound-most.ensures ∙ rw l.invariant.is (edge_more c.args.clock l.e-index c.in_use-e-items.result.now _ (omega arith));
    }

pub returns : goal.returns
unfolding ceiling_of
returns c =
    rw (c.from.ensures, c.loop-e.invariant.is, take_all c.loop-e.e-index c.in_use-e-items.result.now (omega arith), c.in_use-e-items.ensures)
