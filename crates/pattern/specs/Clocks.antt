-- Clocks, guards and resets (document 01, 'Record and run'). A clock's value is the ticks since it was last set to 0,
-- without any ceiling.
use Rattle.std.specs.Prelude.{ℕ, ◌+◌, Bool, cond, leb, ltb, get_or, replicate}
use mathlib.Core.List.{List, map, zip_with}
use Rattle.pattern.specs.declared.Sign.{Sign}
use Rattle.pattern.specs.declared.Sign.TheVariants.{Less, AtMost, More, AtLeast}
use Rattle.pattern.specs.declared.Guard.{Guard}
use Rattle.pattern.specs.declared.Edge.{Edge}
use Rattle.pattern.specs.Slots.{all}
use Rattle.pattern.specs.InUse.{guards_of}

-- The values of the clocks, clock 0 first; four always, also where the pattern has fewer.
abbrev pub Clocks : Type 0
Clocks = List ℕ

-- "It enters a start place at b, all clocks 0."
abbrev pub zero_clocks : Clocks
zero_clocks = replicate 4 0

abbrev pub clock_at : Clocks → ℕ → ℕ
clock_at cs k = get_or cs k 0

-- "Each step stays at least 1 tick, every clock growing with it": the clocks n ticks later.
abbrev pub later : ℕ → Clocks → Clocks
later n cs = map (λ c. c + n) cs

-- Whether a value is on the side of the bound that the sign names.
abbrev pub on_side : Sign → (value bound : ℕ) → Bool
on_side Less v b = ltb v b
on_side AtMost v b = leb v b
on_side More v b = ltb b v
on_side AtLeast v b = leb b v

abbrev pub guard_holds : Clocks → Guard → Bool
guard_holds cs g = on_side g.sign (clock_at cs g.clock) g.bound

-- "then takes an edge out of that place whose guards all hold"
unfoldable pub guards_hold : Clocks → Edge → Bool
guards_hold cs e = all (guard_holds cs) (guards_of e)

-- "then sets the edge's reset clocks to 0"
unfoldable pub after_resets : Edge → Clocks → Clocks
after_resets e cs = zip_with (λ reset c. cond reset 0 c) e.resets cs
