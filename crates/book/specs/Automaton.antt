-- A pattern as an automaton, the test of its clocks, and its clocks held at their ceilings.
use Rattle.std.specs.Prelude.{ℕ, min, cond, ltb}
use mathlib.Core.List.{List, [], ◌∷◌, map, zip_with}
use Rattle.integers.specs.Equal.{same_numbers}
use Rattle.integers.proofs.Equal.{numbers-eq, numbers-self}
use Rattle.pattern.specs.declared.Edge.{Edge}
use Rattle.pattern.specs.declared.Pattern.{Pattern}
use Rattle.pattern.specs.InUse.{place_at, edges_of}
use Rattle.pattern.specs.Kinds as kinds
use Rattle.pattern.specs.Clocks.{Clocks, zero_clocks, later, guards_hold, after_resets}
use Rattle.pattern.specs.Cells.{ceiling_of}
use Rattle.walks.specs.Automaton.{Automaton, Same}
use Rattle.walks.specs.Holding.{held_at}

-- The pattern's places by number, its edges in use, and its clocks without any ceiling.
abbrev pub automaton_of : Pattern → Automaton Clocks Edge
automaton_of p =
    record {
      is_start = λ k. kinds.is_start (place_at p k).kind;
      is_end = λ k. kinds.is_end (place_at p k).kind;
      edges = edges_of p;
      source = λ e. e.from;
      target = λ e. e.to;
      zeros = zero_clocks;
      tick = later 1;
      holds = λ e cs. guards_hold cs e;
      reset = after_resets;
    }

-- The test whether all clocks have the same values.
abbrev pub same_clocks : Same Clocks
same_clocks = record { same = same_numbers; same_eq = numbers-eq; same_self = numbers-self }

-- The ceilings of four clocks, 0 for a clock that the pattern lacks: no guard asks about that one.
abbrev pub ceilings : Pattern → List ℕ
ceilings p = map (λ k. cond (ltb k p.clocks) (ceiling_of p k) 0) (0 ∷ 1 ∷ 2 ∷ 3 ∷ [])

-- "clocks are held at their ceiling"
unfoldable pub held : Pattern → Clocks → Clocks
held p cs = zip_with min (ceilings p) cs

-- The pattern's automaton with its clocks held at their ceilings.
abbrev pub held_automaton : Pattern → Automaton Clocks Edge
held_automaton p = held_at (held p) (automaton_of p)
