-- The answers of `write` in document 01's numbers: by cases on what is asked.
use Prim.Native.Nat.{ℕ}
use mathlib.Core.Path.{◌≡◌, refl}
use mathlib.Core.Bool.{Bool, true, false, cond}
use lib.Dec.{ltb}
use lib.ListN.{length}
use Rattle.std.proofs.Common.{Ok, Err}
use Rattle.pattern.specs.declared.Refusal.TheVariants.{UnsoundPattern, OutputTooShort}
use Rattle.pattern.specs.Sound.{sound_of}
use Rattle.pattern_text.specs.Text.{render_of}
use Rattle.pattern_write.specs.Written.{written_as, WrittenNumbers}

pub written-numbers : WrittenNumbers
written-numbers p room = by (sound_of p) (ltb room (length (render_of p))) (length (render_of p))
  where
    by : (x y : Bool) (n : ℕ)
        → written_as (cond x (cond y (Err OutputTooShort) (Ok n)) (Err UnsoundPattern)) ≡ cond x (cond y (6, 0) (0, n)) (7, 0)
    by true true n = refl
    by true false n = refl
    by false y n = refl
