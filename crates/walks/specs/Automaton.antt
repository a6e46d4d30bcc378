-- An automaton with clocks, a view of ticks, and where an unfinished run stands. Nothing is said of what a clock or a guard
-- is, nor of what a tick brings.
use Rattle.std.specs.Prelude.{◌≡◌, Bool, true, false, ◌&&◌, List, ℕ, suc, T, eqb}
use Rattle.std.specs.Bool.{beq}
use Rattle.std.proofs.Math.Option.{Option}

-- C is the type of all clocks' values together, E that of edges. `tick` is the clocks one tick later, `holds e` tells
-- whether the edge's guards all hold, `reset e` sets the edge's reset clocks to 0.
pub record Automaton (C E : Type 0) : Type 0 where
  pub is_start : ℕ → Bool
  pub is_end : ℕ → Bool
  pub edges : List E
  pub source : E → ℕ
  pub target : E → ℕ
  pub zeros : C
  pub tick : C → C
  pub holds : E → C → Bool
  pub reset : E → C → C

-- What one tick does to a worth, by whether the place was entered just before the tick, and by the place: what the worth
-- is combined with, or none if the place cannot be stayed in.
abbrev pub TickView : Type 0 → Type 0
TickView W = Bool → ℕ → Option W

-- The view of all ticks: tick t runs from time t to t + 1.
abbrev pub View : Type 0 → Type 0
View W = ℕ → TickView W

-- "length so far, stage (0 just entered, 1 staying), place, clock 0, clock 1 and on".
pub record State (C : Type 0) : Type 0 where
  pub len : ℕ
  pub entered : Bool
  pub place : ℕ
  pub clocks : C

module _ {C E : Type 0} (A : Automaton C E) where
  -- "It enters a start place at b, all clocks 0."
  abbrev pub entering : ℕ → State C
  entering p = record { len = 0; entered = true; place = p; clocks = A.zeros }

  -- A tick later, still there.
  abbrev pub stayed : State C → State C
  stayed s = record { len = suc s.len; entered = false; place = s.place; clocks = A.tick s.clocks }

  -- A tick later, along the edge: "then sets the edge's reset clocks to 0".
  abbrev pub taken : E → State C → State C
  taken e s =
      record { len = suc s.len; entered = true; place = A.target e; clocks = A.reset e (A.tick s.clocks) }

-- A test of equality.
pub record Same (A : Type 0) : Type 0 where
  pub same : A → A → Bool
  pub same_eq : (a b : A) → T (same a b) → a ≡ b
  pub same_self : (a : A) → T (same a a)

-- The test whether two states are the same.
unfoldable pub same_state : {C : Type 0} → Same C → State C → State C → Bool
same_state Q s x =
    eqb s.len x.len
    && (beq s.entered x.entered && (eqb s.place x.place && Q.same s.clocks x.clocks))
