-- Runs (document 01, 'Record and run'; source 000, definitions 5 and 6: a transition needs time before it, here at least one
-- tick, and every time is a whole tick). Clocks have no ceiling, stays may be of any length.
use Rattle.std.specs.Prelude.{ℕ, ◌+◌, Bool, false, ◌&&◌, eqb, leb, ltb}
use mathlib.Core.List.{List, [], ◌∷◌, zip_with}
use Rattle.pattern.specs.declared.Pattern.{Pattern}
use Rattle.pattern.specs.InUse.{place_at, edge_at}
use Rattle.pattern.specs.Kinds.{is_start, is_end}
use Rattle.pattern.specs.Clocks.{Clocks, zero_clocks, later, guards_hold, after_resets}

-- A step: "stays at least 1 tick ..; then takes an edge", by its number.
pub record Step : Type 0 where
  pub edge : ℕ
  pub stay : ℕ

-- A step can be made in a place, with the clocks as they were on entering it: the pattern has the edge, it leaves that
-- place, the stay is at least 1 tick, and all the edge's guards hold after the stay.
unfoldable pub can_step : Pattern → (place : ℕ) → Clocks → Step → Bool
can_step p k cs x =
    ltb x.edge p.edgecount && eqb (edge_at p x.edge).from k && leb 1 x.stay
    && guards_hold (later x.stay cs) (edge_at p x.edge)

-- The clocks after a step: "every clock growing with it", and, once the edge is taken, "then sets the edge's reset clocks to
-- 0".
abbrev pub clocks_after : Pattern → Clocks → Step → Clocks
clocks_after p cs x = after_resets (edge_at p x.edge) (later x.stay cs)

-- The steps can be made one after the other from a place, and "the last edge enters an end place".
unfoldable pub goes : Pattern → (place : ℕ) → Clocks → List Step → Bool
goes p k cs [] = is_end (place_at p k).kind
goes p k cs (x ∷ xs) = can_step p k cs x && goes p (edge_at p x.edge).to (clocks_after p cs x) xs

-- "A run .. has one or more steps. It enters a start place at b, all clocks 0." The place is the one that the first edge
-- leaves.
unfoldable pub is_run : Pattern → List Step → Bool
is_run p [] = false
is_run p (x ∷ xs) =
    is_start (place_at p (edge_at p x.edge).from).kind && goes p (edge_at p x.edge).from zero_clocks (x ∷ xs)

-- The time at which the last edge is taken, each stay beginning where the one before it ends; "no time passes" in the end
-- place.
unfoldable pub end_of : (begin : ℕ) → List Step → ℕ
end_of begin [] = begin
end_of begin (x ∷ xs) = end_of (begin + x.stay) xs

-- All stays together. "A run's length is its end minus its begin": theorem LengthIsStays.
unfoldable pub length_of : List Step → ℕ
length_of [] = 0
length_of (x ∷ xs) = x.stay + length_of xs

-- A run as it is lent ('Price a run': "edge list and stay list"): the first edge with the first stay, and so on.
unfoldable pub steps_of : (edges stays : List ℕ) → List Step
steps_of es ss = zip_with (λ e s. record { edge = e; stay = s }) es ss
