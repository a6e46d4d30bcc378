-- What a sound pattern, or its refusal, says of the value that was judged.
use mathlib.Core.Path.{◌≡◌, refl}
use mathlib.Core.Bool.{Bool, true, false, cond}
use Rattle.std.specs.Prelude.{Ok, Err}
use Rattle.pattern.specs.declared.Pattern.{Pattern}
use Rattle.pattern.specs.declared.Refusal.{Refusal}
use Rattle.pattern.specs.declared.Refusal.TheVariants.{UnsoundPattern}
use Rattle.pattern.specs.Sound.{sound_of}

pub accepted : (p q : Pattern) → Ok q ≡ cond (sound_of p) (Ok p) (Err UnsoundPattern) → (sound_of p ≡ true) × (q ≡ p)
accepted p q e = by (sound_of p) e
  where
    by : (t : Bool) → Ok q ≡ cond t (Ok p) (Err UnsoundPattern) → (t ≡ true) × (q ≡ p)
    by true e = (refl, cc)
    by false e = cc

pub refused : (p : Pattern) (r : Refusal) → Err r ≡ cond (sound_of p) (Ok p) (Err UnsoundPattern) → (sound_of p ≡ false) × (r ≡ UnsoundPattern)
refused p r e = by (sound_of p) e
  where
    by : (t : Bool) → Err r ≡ cond t (Ok p) (Err UnsoundPattern) → (t ≡ false) × (r ≡ UnsoundPattern)
    by true e = cc
    by false e = (refl, cc)
