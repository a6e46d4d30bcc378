-- The answer to a text, by what its reading hands back.
use mathlib.Core.Path.{◌≡◌, ap}
use Rattle.std.specs.Prelude.{Ok, Err}
use Rattle.pattern.specs.declared.Pattern.{Pattern}
use Rattle.pattern.specs.declared.Refusal.{Refusal}
use Rattle.pattern_text.specs.Text.{Answer, accepted, refused}
use Rattle.pattern_read.specs.Reading.{reading_of}

pub accepted_is : (a : Answer) (p : Pattern) → Ok p ≡ reading_of a → a ≡ accepted p
accepted_is (accepted q) p e = let f : q ≡ p = cc in ap accepted f
accepted_is (refused r) p e = cc

pub refused_is : (a : Answer) (r : Refusal) → Err r ≡ reading_of a → a ≡ refused r
refused_is (accepted p) r e = cc
refused_is (refused q) r e = let f : q ≡ r = cc in ap refused f
