-- The monitor's state as a lent slice of signed 64-bit numbers: entry 0 the ticks, entries 1 to 8 the last values.
use Rattle.std.specs.Prelude.{List, ◌∷◌, ◌++◌, Bool, ◌&&◌, leb, length, take, drop, get_or, cond, ℤ, pos, negsuc, nat_abs, Option, Some, None}
use Rattle.std.specs.Int.Signed.{le_z}
use Rattle.pattern.specs.Slots.{all}
use Rattle.monitor.specs.declared.State.{State}

-- What a state's ticks can be: 0 to 4,294,967,295.
unfoldable pub is_ticks : ℤ → Bool
is_ticks z = le_z (pos 0) z && le_z z (pos 4_294_967_295)

-- What a state's value can be: -2,147,483,648 (`negsuc n` is -1 - n) to 2,147,483,647.
unfoldable pub is_value : ℤ → Bool
is_value z = le_z (negsuc 2_147_483_647) z && le_z z (pos 2_147_483_647)

-- Entries 1 to 8.
abbrev pub last_in : List ℤ → List ℤ
last_in l = take 8 (drop 1 l)

-- Whether a slice holds some state: at least 9 entries, and none of the first nine is one that no state can have.
unfoldable pub holds_state : List ℤ → Bool
holds_state l = leb 9 (length l) && is_ticks (get_or l 0 (pos 0)) && all is_value (last_in l)

-- The state that it holds.
abbrev pub state_in : List ℤ → State
state_in l = record { ticks = nat_abs (get_or l 0 (pos 0)); last = last_in l }

-- The same as an answer: none, if it holds no state.
abbrev pub held_state : List ℤ → Option State
held_state l = cond (holds_state l) (Some (state_in l)) None

-- The slice once a state was written into it; entries past the state's nine are untouched.
abbrev pub with_state : State → List ℤ → List ℤ
with_state s l = pos s.ticks ∷ (s.last ++ drop 9 l)
