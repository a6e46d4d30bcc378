-- Walks: what is reached tick by tick from a table. "Each step stays at least 1 tick ..; then takes an edge out of that
-- place whose guards all hold; then sets the edge's reset clocks to 0." So an edge is tried after a tick only, on the
-- clocks after that tick.
use Rattle.std.specs.Prelude.{◌≡◌, ℕ, zero, suc, ◌<◌, T}
use Rattle.std.proofs.Math.Option.{Option, some}
use mathlib.Core.List.{Memᴰ}
use Rattle.weighting.specs.Weighting.{Weighting}
use Rattle.walks.specs.Automaton.{Automaton, View, State, entering, stayed, taken}

-- From s, after one tick of its place, the edge e can be taken.
pub record Takes {C E : Type 0} (A : Automaton C E) (s : State C) (e : E) : Type 0 where
  pub known : Memᴰ e A.edges
  pub fits : A.source e ≡ s.place
  pub guarded : T (A.holds e (A.tick s.clocks))

-- The moves of one tick: it stays, or it stays and takes an edge. Nothing longer than `high` is followed.
pub data Move {C E : Type 0} (A : Automaton C E) (high : ℕ) (s : State C) : State C → Type 0 where
  stays : s.len < high → Move A high s (stayed A s)
  takes : {e : E} → s.len < high → Takes A s e → Move A high s (taken A e s)

-- `Reach n s w`: n ticks after the table T₀ the automaton can be in s with the worth w. T₀ held it ("Feeding takes the
-- first table's cells as the worths they say"), or it began just now ("The empty run's worth is written anew after each
-- tick, never before a call's first"), or it made a move in the tick before, through which its place was open.
pub data Reach {W C E : Type 0} (𝓦 : Weighting W) (A : Automaton C E) (𝓥 : View W) (high : ℕ) (T₀ : State C → Option W) : ℕ → State C → W → Type 0 where
  held : {s : State C} {w : W} → T₀ s ≡ some w → Reach 𝓦 A 𝓥 high T₀ zero s w
  begin : {n p : ℕ} → T (A.is_start p) → Reach 𝓦 A 𝓥 high T₀ (suc n) (entering A p) 𝓦.unit
  move : {n : ℕ} {s x : State C} {w g : W} → Reach 𝓦 A 𝓥 high T₀ n s w → 𝓥 n s.entered s.place ≡ some g → Move A high s x → Reach 𝓦 A 𝓥 high T₀ (suc n) x (𝓦.combine w g)
