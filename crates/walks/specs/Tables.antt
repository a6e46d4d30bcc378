-- Tables: "A cell holds the best worth of all unfinished runs in that state now". A table is a worth or none for each
-- state, and `all` lists the states that it has cells for.
use Rattle.std.specs.Prelude.{◌≡◌, Bool, cond, ◌&&◌, ℕ, zero, suc, ◌≤◌, T, eqb, ltb}
use Rattle.std.proofs.Math.Option.{Option, none, some}
use mathlib.Core.List.{List, [], ◌∷◌, ◌++◌, map, Memᴰ}
use Rattle.weighting.specs.Order.{Order, choose, best_of}
use Rattle.weighting.specs.Weighting.{Weighting}
use Rattle.walks.specs.Automaton.{Automaton, TickView, View, State, entering, stayed, taken, Same, same_state}
use Rattle.walks.specs.Walks.{Move}

abbrev pub Table : Type 0 → Type 0 → Type 0
Table W C = State C → Option W

-- "At each time, a start place with length 0, stage 0 and clocks 0 holds the empty run's worth"; nothing else is held.
unfoldable pub opening : {W C E : Type 0} → Weighting W → Automaton C E → Same C → Table W C
opening 𝓦 A Q x =
    cond (A.is_start x.place && same_state Q x (entering A x.place)) (some 𝓦.unit) none

module _ {C E : Type 0} (A : Automaton C E) where
  -- The edge can be taken from s, after one tick of its place.
  unfoldable pub can_take : State C → E → Bool
  can_take s e = eqb (A.source e) s.place && A.holds e (A.tick s.clocks)

  -- Where the edges lead from s.
  unfoldable pub along : State C → List E → List (State C)
  along s [] = []
  along s (e ∷ es) = cond (can_take s e) (taken A e s ∷ along s es) (along s es)

  -- Where s can go in one tick: it stays, or it stays and takes an edge; nothing longer than `high` is followed.
  unfoldable pub moves_from : ℕ → State C → List (State C)
  moves_from high s = cond (ltb s.len high) (stayed A s ∷ along s A.edges) []

-- What a worth becomes through a tick, if there is one and its place can be stayed in.
abbrev pub grown : {W : Type 0} → Weighting W → Option W → Option W → Option W
grown 𝓦 none g = none
grown 𝓦 (some w) none = none
grown 𝓦 (some w) (some g) = some (𝓦.combine w g)

-- One worth offered to each of several states.
abbrev pub offer : {W C : Type 0} → Option W → List (State C) → List (State C × W)
offer none xs = []
offer {C = C} (some v) xs = map (λ (x : State C). (x, v)) xs

-- All that the cells offer in one tick: the moved worth, to each state that their state can go to.
unfoldable pub offers : {W C E : Type 0} → Weighting W → Automaton C E → ℕ → TickView W → Table W C → List (State C) → List (State C × W)
offers 𝓦 A high g U [] = []
offers 𝓦 A high g U (s ∷ ss) =
    offer (grown 𝓦 (U s) (g s.entered s.place)) (moves_from A high s) ++ offers 𝓦 A high g U ss

-- Those that are offered to x.
unfoldable pub offered_to : {W C : Type 0} → Same C → State C → List (State C × W) → List W
offered_to Q x [] = []
offered_to Q x (c ∷ cs) = cond (same_state Q c.0 x) (c.1 ∷ offered_to Q x cs) (offered_to Q x cs)

-- A table after offers made one by one: each to its cell, which keeps the better.
unfoldable pub offered : {W C : Type 0} → Order W → Same C → Table W C → List (State C × W) → Table W C
offered O Q U [] = U
offered {W} {C} O Q U (c ∷ cs) = offered O Q (λ (x : State C). cond (same_state Q c.0 x) (choose O (U x) c.1) (U x)) cs

module _ {W C E : Type 0} (𝓦 : Weighting W) (A : Automaton C E) (Q : Same C) (high : ℕ) (all : List (State C)) where
  -- The table one tick later: at length 0 the empty run's worth, at other lengths the best over all moves into the cell
  -- of the moved worth.
  unfoldable pub next : TickView W → Table W C → Table W C
  next g U x = cond (eqb x.len 0) (opening 𝓦 A Q x) (best_of 𝓦.order (offered_to Q x (offers 𝓦 A high g U all)))

  -- The table n ticks after T₀.
  abbrev pub table_at : View W → Table W C → ℕ → Table W C
  table_at 𝓥 T₀ zero = T₀
  table_at 𝓥 T₀ (suc n) = next (𝓥 n) (table_at 𝓥 T₀ n)

-- The cells suffice: they are not too long, whatever begins has one, and no move leaves them.
pub record Closed {C E : Type 0} (A : Automaton C E) (high : ℕ) (all : List (State C)) : Type 0 where
  pub short : (s : State C) → Memᴰ s all → s.len ≤ high
  pub begins_in : (p : ℕ) → T (A.is_start p) → Memᴰ (entering A p) all
  pub moves_in : (s x : State C) → Memᴰ s all → Move A high s x → Memᴰ x all

-- The table has nothing outside its cells.
abbrev pub Within : {W C : Type 0} → List (State C) → Table W C → Type 0
Within {W} {C} all U = (s : State C) (w : W) → U s ≡ some w → Memᴰ s all
