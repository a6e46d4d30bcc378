-- Clocks held at their ceilings: "clocks are held at their ceiling".
use Rattle.std.specs.Prelude.{◌≡◌}
use mathlib.Core.List.{Memᴰ}
use Rattle.walks.specs.Automaton.{Automaton, State}

-- What is asked so that holding changes no run: zeros are held already; a tick, a reset and the guards see no more of the clocks than
-- what is held.
pub record Holding {C E : Type 0} (A : Automaton C E) (hold : C → C) : Type 0 where
  pub of_zeros : hold A.zeros ≡ A.zeros
  pub of_tick : (c : C) → hold (A.tick (hold c)) ≡ hold (A.tick c)
  pub of_reset : (e : E) → Memᴰ e A.edges → (c : C) → hold (A.reset e c) ≡ A.reset e (hold c)
  pub of_holds : (e : E) → Memᴰ e A.edges → (c : C) → A.holds e (hold c) ≡ A.holds e c

-- The automaton whose clocks are held after each tick.
abbrev pub held_at : {C E : Type 0} → (C → C) → Automaton C E → Automaton C E
held_at hold A =
    record {
      is_start = A.is_start;
      is_end = A.is_end;
      edges = A.edges;
      source = A.source;
      target = A.target;
      zeros = A.zeros;
      tick = λ c. hold (A.tick c);
      holds = A.holds;
      reset = A.reset;
    }

-- A state with its clocks held.
abbrev pub hold_state : {C : Type 0} → (C → C) → State C → State C
hold_state hold s = record { len = s.len; entered = s.entered; place = s.place; clocks = hold s.clocks }
