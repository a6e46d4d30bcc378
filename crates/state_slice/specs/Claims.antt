-- What is claimed of a state's slice; the proofs are in proofs/.
use Rattle.std.specs.Prelude.{◌≤◌, ◌≡◌, List, true, length, ℤ}
use Rattle.pattern.specs.Slots.{all}
use Rattle.monitor.specs.declared.State.{State}
use Rattle.state_slice.specs.Slice.{is_value, holds_state, state_in, with_state}

-- A value of the type State: 32 bits of ticks, 8 values of 32 bits.
pub record IsState (s : State) : Type 0 where
  pub ticks : s.ticks ≤ 4_294_967_295
  pub count : length s.last ≡ 8
  pub values : all is_value s.last ≡ true

-- Theorem: what a slice holds is such a value.
abbrev pub HeldIsState : Type 0
HeldIsState = (l : List ℤ) → holds_state l ≡ true → IsState (state_in l)

-- Theorem: a state that was written is the one that is read, so a call finds what the call before it left.
abbrev pub WrittenIsRead : Type 0
WrittenIsRead = (s : State) (l : List ℤ) → IsState s → (holds_state (with_state s l) ≡ true) × (state_in (with_state s l) ≡ s)

-- Theorem: to write the state that a slice holds alters nothing.
abbrev pub ReadIsWritten : Type 0
ReadIsWritten = (l : List ℤ) → holds_state l ≡ true → with_state (state_in l) l ≡ l

-- Theorem: the slice keeps its length, if it is long enough to hold a state.
abbrev pub LengthKept : Type 0
LengthKept = (s : State) (l : List ℤ) → length s.last ≡ 8 → 9 ≤ length l → length (with_state s l) ≡ length l
