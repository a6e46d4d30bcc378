-- Margin and sum keep the laws of a weighting. The laws' statements are the fields of `Weighting`.
use Rattle.std.specs.Prelude.{◌≡◌, ℤ, pos, T}
use Rattle.std.proofs.Math.IntN.{+ℤ_idl, +ℤ_idr, +ℤ_assoc}
use Rattle.integers.specs.Least.{min_z}
use Rattle.integers.proofs.Order.{le-through, le-equal}
use Rattle.integers.proofs.Least.{min_mono, min_assoc, min-first, min-second, min-left}
use Rattle.integers.proofs.Sums.{add_mono}
use Rattle.weighting.specs.declared.Weighing.{Weighing}
use Rattle.weighting.specs.declared.Weighing.TheVariants.{Margin, Sum}
use Rattle.weighting.specs.Weighting.{Weighting}
use Rattle.weighting.specs.Weightings.{scale_of}

pub equal : (w : Weighing) (a b : ℤ) → T ((scale_of w).order.at_least a b) → T ((scale_of w).order.at_least b a) → a ≡ b
equal Margin a b h k = le-equal a b k h
equal Sum a b h k = le-equal a b h k

pub unit_worth : (w : Weighing) → T ((scale_of w).worth (scale_of w).unit)
unit_worth Margin = tt
unit_worth Sum = tt

pub combine_worth : (w : Weighing) (a b : ℤ) → T ((scale_of w).worth a) → T ((scale_of w).worth b) → T ((scale_of w).worth ((scale_of w).combine a b))
combine_worth Margin a b h k = le-through (min_z a b) a (pos 2_000_001) (min-left a b) h
combine_worth Sum a b h k = tt

pub unit_left : (w : Weighing) (a : ℤ) → T ((scale_of w).worth a) → (scale_of w).combine (scale_of w).unit a ≡ a
unit_left Margin a h = min-second (pos 2_000_001) a h
unit_left Sum a h = +ℤ_idl a

pub unit_right : (w : Weighing) (a : ℤ) → T ((scale_of w).worth a) → (scale_of w).combine a (scale_of w).unit ≡ a
unit_right Margin a h = min-first a (pos 2_000_001) h
unit_right Sum a h = +ℤ_idr a

pub assoc : (w : Weighing) (a b c : ℤ)
    → (scale_of w).combine ((scale_of w).combine a b) c ≡ (scale_of w).combine a ((scale_of w).combine b c)
assoc Margin a b c = min_assoc a b c
assoc Sum a b c = +ℤ_assoc a b c

pub monotone : (w : Weighing) (a b c : ℤ) → T ((scale_of w).order.at_least a b)
    → T ((scale_of w).order.at_least ((scale_of w).combine a c) ((scale_of w).combine b c))
monotone Margin a b c h = min_mono b a c h
monotone Sum a b c h = add_mono a b c h

-- The weighting that a pattern's first line names.
abbrev pub weighting_of : Weighing → Weighting ℤ
weighting_of w =
    record {
      order = (scale_of w).order;
      equal = equal w;
      worth = (scale_of w).worth;
      unit = (scale_of w).unit;
      combine = (scale_of w).combine;
      unit_worth = unit_worth w;
      combine_worth = combine_worth w;
      unit_left = unit_left w;
      unit_right = unit_right w;
      assoc = assoc w;
      monotone = monotone w;
    }

abbrev pub margin : Weighting ℤ
margin = weighting_of Margin

abbrev pub sum : Weighting ℤ
sum = weighting_of Sum
