-- When a pattern value is sound (document 01, 'Pattern text'; document 02, R-1): every count, range and index is one that
-- a text can have, and what a text does not say is zeros. That it is sound exactly if some text reads as it is a theorem
-- of the crate pattern_text.
use Rattle.std.specs.Prelude.{ℕ, Bool, true, false, not, cond, ◌&&◌, eqb, leb, ltb, replicate, ℤ, pos, negsuc, nat_abs}
use Rattle.std.specs.Int.Signed.{le_z}
use Rattle.weighting.specs.declared.Weighing.TheVariants.{Margin}
use Rattle.pattern.specs.declared.Sign.{Sign}
use Rattle.pattern.specs.declared.Sign.TheVariants.{Less, AtMost, More, AtLeast}
use Rattle.pattern.specs.declared.Kind.{Kind}
use Rattle.pattern.specs.declared.Kind.TheVariants.{Start, Plain, End, Both}
use Rattle.pattern.specs.declared.Test.{Test}
use Rattle.pattern.specs.declared.Guard.{Guard}
use Rattle.pattern.specs.declared.Place.{Place}
use Rattle.pattern.specs.declared.Edge.{Edge}
use Rattle.pattern.specs.declared.Pattern.{Pattern}
use Rattle.pattern.specs.Slots.{anything, within, slots}

-- ---- the two kinds of test, by what a text says of them

-- a sign, a channel and a bound; no `high`
abbrev pub bounded : Sign → (channel : ℕ) → (bound : ℤ) → Test
bounded s c b = record { sign = s; channel = c; band = false; bound = b; high = pos 0 }

-- R-1, a band: a channel, a low, which stands as `bound`, and a high; no sign
abbrev pub banded : (channel : ℕ) → (low high : ℤ) → Test
banded c l h = record { sign = Less; channel = c; band = true; bound = l; high = h }

-- ---- "Its unused slots are zeros, with sign `<` and kind plain."

abbrev pub no_test : Test
no_test = bounded Less 0 (pos 0)

abbrev pub no_place : Place
no_place = record { kind = Plain; tests = replicate 4 no_test; count = 0 }

abbrev pub no_guard : Guard
no_guard = record { sign = Less; clock = 0; bound = 0 }

abbrev pub no_edge : Edge
no_edge = record { from = 0; to = 0; guards = replicate 4 no_guard; count = 0; resets = replicate 4 false }

-- a pattern beside a refusal, zeros throughout
abbrev pub no_pattern : Pattern
no_pattern = record {
  weighing = Margin;
  channels = 0;
  clocks = 0;
  low = 0;
  high = 0;
  placecount = 0;
  places = replicate 16 no_place;
  edgecount = 0;
  edges = replicate 32 no_edge;
}

abbrev pub is_less : Sign → Bool
is_less Less = true
is_less AtMost = false
is_less More = false
is_less AtLeast = false

abbrev pub is_plain : Kind → Bool
is_plain Start = false
is_plain Plain = true
is_plain End = false
is_plain Both = false

abbrev pub is_null : ℤ → Bool
is_null (pos n) = eqb n 0
is_null (negsuc n) = false

unfoldable pub test_unused : Test → Bool
test_unused t = is_less t.sign && eqb t.channel 0 && not t.band && is_null t.bound && is_null t.high

-- Zeros, with sign `<`, stand also where a test in use says nothing: a band of a sign, any other test of a `high`.
unfoldable pub unsaid_zero : Test → Bool
unsaid_zero t = cond t.band (is_less t.sign) (is_null t.high)

unfoldable pub guard_unused : Guard → Bool
guard_unused g = is_less g.sign && eqb g.clock 0 && eqb g.bound 0

unfoldable pub place_unused : Place → Bool
place_unused l = is_plain l.kind && eqb l.count 0 && slots test_unused test_unused 4 0 l.tests

unfoldable pub edge_unused : Edge → Bool
edge_unused e =
    eqb e.from 0 && eqb e.to 0 && eqb e.count 0 && slots guard_unused guard_unused 4 0 e.guards
    && slots not not 4 0 e.resets

-- ---- ranges, and indices that the pattern has

-- "a bound from -1,000,000 to 1,000,000"
unfoldable pub bound_in_range : ℤ → Bool
bound_in_range b = leb (nat_abs b) 1_000_000

-- R-1: both ends of a band are in a bound's range, and the low is not above the high
unfoldable pub band_in_range : (low high : ℤ) → Bool
band_in_range l h = bound_in_range l && bound_in_range h && le_z l h

unfoldable pub test_in_range : Test → Bool
test_in_range t = cond t.band (band_in_range t.bound t.high) (bound_in_range t.bound)

-- Channels count from 0.
unfoldable pub test_known : (channels : ℕ) → Test → Bool
test_known channels t = ltb t.channel channels

-- "a bound 0 to 1,000"
unfoldable pub guard_in_range : Guard → Bool
guard_in_range g = leb g.bound 1_000

-- Clocks count from 0.
unfoldable pub guard_known : (clocks : ℕ) → Guard → Bool
guard_known clocks g = ltb g.clock clocks

-- "channels 1 to 8; clocks 0 to 4; the window's low, 1 to 4,095; its high, low to 4,095"
unfoldable pub header_in_range : (channels clocks low high : ℕ) → Bool
header_in_range channels clocks low high =
    within 1 8 channels && leb clocks 4 && within 1 4_095 low && within low 4_095 high

-- ---- the pattern

-- a test in use
unfoldable pub test_sound : (channels : ℕ) → Test → Bool
test_sound channels t = test_in_range t && test_known channels t && unsaid_zero t

-- "with 0 to 4 tests"; a band is one of them
unfoldable pub place_sound : (channels : ℕ) → Place → Bool
place_sound channels l = slots (test_sound channels) test_unused 4 l.count l.tests

-- "from, to, 0 to 4 guards, then resets": both ends among the places, and a reset flag only for a clock of the pattern.
-- The flags stand in the clocks' order, so resets that rise need no rule of their own.
unfoldable pub edge_sound : (clocks places : ℕ) → Edge → Bool
edge_sound clocks places e =
    ltb e.from places && ltb e.to places
    && slots (λ g. guard_in_range g && guard_known clocks g) guard_unused 4 e.count e.guards
    && slots anything not 4 clocks e.resets

-- "Then 1 to 16 places", "Then 0 to 32 edges"
unfoldable pub sound_of : Pattern → Bool
sound_of p =
    header_in_range p.channels p.clocks p.low p.high
    && leb 1 p.placecount
    && slots (place_sound p.channels) place_unused 16 p.placecount p.places
    && slots (edge_sound p.clocks p.placecount) edge_unused 32 p.edgecount p.edges
