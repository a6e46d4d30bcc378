-- The answers of `price` in document 01's numbers: by cases on what is asked.
use mathlib.Core.Path.{◌≡◌, refl}
use mathlib.Core.Bool.{Bool, true, false, cond}
use mathlib.Core.Option.{Option, none, some}
use lib.IntN.{ℤ, pos}
use Rattle.pattern.specs.declared.Refusal.TheVariants.{UnsoundPattern, BrokenRecord, BrokenSteps}
use Rattle.pattern.specs.Sound.{sound_of}
use Rattle.record.specs.Record.{record_sound, book_of}
use Rattle.record.specs.Run.{steps_of}
use Rattle.record.specs.Worth.{price_of}
use Rattle.std.specs.Prelude.{Err}
use Rattle.price.specs.Price.{steps_fit, scored, priced_of, priced_as, scored_as, PricedNumbers}

pub priced_numbers_lem : PricedNumbers
unfolding priced_of
priced_numbers_lem p ds vs begin es ss = by (sound_of p) (record_sound p.channels ds vs) (steps_fit ds begin es ss) (price_of p (book_of p.channels ds vs) begin (steps_of es ss))
  where
    by : (x y z : Bool) (o : Option ℤ)
        → priced_as (cond x (cond y (cond z (scored o) (Err BrokenSteps)) (Err BrokenRecord)) (Err UnsoundPattern))
        ≡ cond x (cond y (cond z (scored_as o) (9, pos 0)) (8, pos 0)) (7, pos 0)
    by true true true (some w) = refl
    by true true true none = refl
    by true true false o = refl
    by true false z o = refl
    by false y z o = refl
