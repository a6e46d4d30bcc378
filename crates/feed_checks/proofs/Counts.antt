-- What a count of cells says of the pattern; the layout's cells are the needed ones.
use Prim.Native.Nat.{ℕ}
use mathlib.Core.Path.{◌≡◌, refl}
use mathlib.Core.Bool.{Bool, true, false, cond, not}
use Rattle.std.specs.Prelude.{Ok, Err}
use Rattle.pattern.specs.declared.Pattern.{Pattern}
use Rattle.pattern.specs.declared.Refusal.{Refusal}
use Rattle.pattern.specs.declared.Refusal.TheVariants.{UnsoundPattern}
use Rattle.pattern.specs.Sound.{sound_of}
use Rattle.pattern.specs.Cells.{cells_needed, cells_of}
use Rattle.cells.specs.Layout.{cells_in}
use Rattle.monitor.specs.Cells.{layout}
use Rattle.monitor.specs.Feed.{cell_fine, cells_broken}
use Rattle.monitor.proofs.CellLaws.{cells_are}
use Rattle.pattern.specs.Slots.{all}
use lib.ListN.{take}
use lib.IntN.{ℤ}
use mathlib.Core.List.{List}

-- a pattern whose cells are counted is sound, and needs so many
pub counted : (p : Pattern) (n : ℕ) → Ok n ≡ cells_of p → (sound_of p ≡ true) × (n ≡ cells_needed p)
unfolding cells_of
counted p n e = by (sound_of p) e
  where
    by : (t : Bool) → Ok n ≡ cond t (Ok (cells_needed p)) (Err UnsoundPattern) → (t ≡ true) × (n ≡ cells_needed p)
    by true q = (refl, cc)
    by false q = cc

-- a pattern whose count is refused is unsound
pub refused : (p : Pattern) (r : Refusal) → Err r ≡ cells_of p → sound_of p ≡ false
unfolding cells_of
refused p r e = by (sound_of p) e
  where
    by : (t : Bool) → Err r ≡ cond t (Ok (cells_needed p)) (Err UnsoundPattern) → t ≡ false
    by true q = cc
    by false q = refl

-- a look at the cells of the layout is a look at the needed ones
pub broken_is : (p : Pattern) (t : List ℤ) → sound_of p ≡ true → not (all cell_fine (take (cells_in (layout p)) t)) ≡ cells_broken p t
unfolding cells_broken
broken_is p t sound = rw (cells_are p sound)
