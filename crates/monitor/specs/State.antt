-- The monitor's state (document 01, 'Monitor tables', 'Feed a piece').
use Rattle.std.specs.Prelude.{ℕ, ◌+◌, ◌++◌, Bool, not, ◌&&◌, ◌||◌, eqb, leb, take, drop, replicate, pos}
use Rattle.pattern.specs.declared.Pattern.{Pattern}
use Rattle.pattern.specs.Slots.{all}
use Rattle.pattern.specs.Sound.{is_null}
use Rattle.pattern.specs.Distance.{Sample}
use Rattle.record.specs.Record.{value_in_range}
use Rattle.monitor.specs.declared.State.{State}

-- After an opening: no ticks, zeros.
abbrev pub no_ticks : State
no_ticks = record { ticks = 0; last = replicate 8 (pos 0) }

-- The last values of the pattern's channels.
abbrev pub last_sample : Pattern → State → Sample
last_sample p s = take p.channels s.last

-- "12: a state with ticks over 2,147,483,647, a value out of range, or a non-zero where zero is due": "zeros before the
-- first piece and in unused channels".
unfoldable pub state_sound : Pattern → State → Bool
state_sound p s =
    leb s.ticks 2_147_483_647 && all value_in_range (take p.channels s.last) && all is_null (drop p.channels s.last)
    && (not (eqb s.ticks 0) || all is_null s.last)

-- After a piece: its ticks more, and its values as the last ones.
abbrev pub piece_later : Pattern → State → (duration : ℕ) → Sample → State
piece_later p s d vs = record { ticks = s.ticks + d; last = vs ++ drop p.channels s.last }
