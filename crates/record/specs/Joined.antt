-- What a stay observes: neighbouring ticks that are one are one observation, and what makes two ticks one is the place's matter
-- (document 02, R-3). Source 000, definition 2, joins ticks that are equal in every channel; specs/AsBefore says what that
-- reading has in common with this one.
use Rattle.std.specs.Prelude.{ℕ, List, [], ◌∷◌, Bool, cond, take, drop}
use Rattle.integers.specs.Equal.{eq_z}
use Rattle.pattern.specs.declared.Test.{Test}
use Rattle.pattern.specs.declared.Place.{Place}
use Rattle.pattern.specs.Slots.{all}
use Rattle.pattern.specs.InUse.{tests_of}
use Rattle.pattern.specs.Distance.{Sample, reading_of}
use Rattle.record.specs.Record.{Book}

-- ---- joining, by any test of neighbours

-- One more in front of what is joined already. The first of those that are one stands for them.
unfoldable pub absorb : {A : Type 0} → (A → A → Bool) → A → List A → List A
absorb same x [] = x ∷ []
absorb same x (y ∷ ys) = cond (same x y) (x ∷ ys) (x ∷ y ∷ ys)

unfoldable pub joined : {A : Type 0} → (A → A → Bool) → List A → List A
joined same [] = []
joined same (x ∷ b) = absorb same x (joined same b)

-- What ticks bring that is new after the tick `last`: each that is not one with the tick before it. (Theorem ObservedInOrder:
-- joining, seen tick by tick.)
unfoldable pub fresh_after : {A : Type 0} → (A → A → Bool) → (last : A) → List A → List A
fresh_after same last [] = []
fresh_after same last (x ∷ b) = cond (same last x) (fresh_after same x b) (x ∷ fresh_after same x b)

-- ---- the test that stays use

-- Two samples have the same value in the channel of a test.
abbrev pub agree_on : Sample → Sample → Test → Bool
agree_on x y t = eq_z (reading_of x t.channel) (reading_of y t.channel)

-- They agree in a place if they do so in the channel of each of its tests. In a place without tests any two agree.
unfoldable pub agrees : Place → Sample → Sample → Bool
agrees l x y = all (agree_on x y) (tests_of l)

-- What a stay of n ticks from time t observes in a place (source 000, definition 6, time elapse: the values since the latest
-- transition).
unfoldable pub observed : Place → Book → (t n : ℕ) → List Sample
observed l b t n = joined (agrees l) (take n (drop t b))
