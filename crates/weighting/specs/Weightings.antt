-- The two weightings of document 01, over whole numbers: what each compares, counts as a worth and combines by. That they keep
-- the laws of a weighting is proved in proofs/Weightings.
use Rattle.std.specs.Prelude.{Bool, true, ℤ, pos, ◌+ℤ◌}
use Rattle.std.specs.Int.Signed.{le_z}
use Rattle.integers.specs.Least.{min_z}
use Rattle.integers.proofs.Order.{le-self, le-either, le-through}
use Rattle.weighting.specs.declared.Weighing.{Weighing}
use Rattle.weighting.specs.declared.Weighing.TheVariants.{Margin, Sum}
use Rattle.weighting.specs.Order.{Order}

-- A weighting without its laws.
pub record Scale (W : Type 0) : Type 0 where
  pub order : Order W
  pub worth : W → Bool
  pub unit : W
  pub combine : W → W → W

-- "In margin a stay is worth the least distance .., and a run the least of its stays; the greatest run is best. A stay
-- without tests is worth 2,000,001, which stands for the source's infinity."
-- The least of two has no unit among all whole numbers, so margin's worths are the numbers up to 2,000,001.
abbrev pub margin_scale : Scale ℤ
margin_scale =
    record {
      order = record {
        at_least = λ a b. le_z b a;
        self = le-self;
        either = λ a b. le-either b a;
        through = λ a b c h k. le-through c b a k h;
      };
      worth = λ a. le_z a (pos 2_000_001);
      unit = pos 2_000_001;
      combine = min_z;
    }

-- "In sum a stay adds up the distances ..; a run adds its stays; the least is best." Every number is a worth.
abbrev pub sum_scale : Scale ℤ
sum_scale =
    record {
      order = record { at_least = le_z; self = le-self; either = le-either; through = le-through };
      worth = λ a. true;
      unit = pos 0;
      combine = ◌+ℤ◌;
    }

-- What the weighting goes by that a pattern's first line names.
abbrev pub scale_of : Weighing → Scale ℤ
scale_of Margin = margin_scale
scale_of Sum = sum_scale
