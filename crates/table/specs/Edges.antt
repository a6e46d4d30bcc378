-- What is known of the edges in a call.
use Rattle.std.specs.Prelude.{ℕ, ◌+◌, ◌≤◌, ◌<◌, ◌≡◌, List, get_or}
use Rattle.pattern.specs.declared.Edge.{Edge}
use Rattle.cells.specs.declared.Layout.{Layout}
use Rattle.steps.specs.Steps.{edge_in, Fit}
use Rattle.table.specs.declared.Links.{Links}

-- Each edge leads from a place to a place, and asks about the four clocks.
pub record Edged (l : Layout) (es : List Edge) (count : ℕ) : Type 0 where
  pub few : count ≤ 32
  pub froms : (i : ℕ) → i < count → (edge_in es i).from < l.places
  pub tos : (i : ℕ) → i < count → (edge_in es i).to < l.places
  pub fits : (i : ℕ) → i < count → Fit (edge_in es i)

-- Each edge leaves one of 16 places.
pub record Sourced (es : List Edge) (count : ℕ) : Type 0 where
  pub few : count ≤ 32
  pub froms : (i : ℕ) → i < count → (edge_in es i).from < 16

-- b is the first edge from a on that leaves p, or `count`.
pub record Hop (es : List Edge) (count p a b : ℕ) : Type 0 where
  pub above : a ≤ b
  pub below : b ≤ count
  pub skips : (j : ℕ) → a ≤ j → j < b → (edge_in es j).from ≡ p → ⊥
  pub lands : b < count → (edge_in es b).from ≡ p

-- The links lead through the edges out of each place.
pub record Linked (es : List Edge) (count : ℕ) (links : Links) : Type 0 where
  pub firsts : (p : ℕ) → p < 16 → Hop es count p 0 (get_or links.firsts p 0)
  pub nexts : (i : ℕ) → i < count → Hop es count (edge_in es i).from (i + 1) (get_or links.nexts i 0)
