-- The table of a pattern: what the laws ask of an automaton, of edges and of states holds of it.
use Rattle.std.specs.Prelude.{ℕ, ◌≤◌, ◌<◌, ◌≡◌, Bool, true, false, List, get_or, ℤ}
use Rattle.pattern.specs.declared.Pattern.{Pattern}
use Rattle.pattern.specs.InUse.{place_at}
use Rattle.pattern.specs.Sound.{sound_of}
use Rattle.pattern.specs.Kinds as kinds
use Rattle.pattern.specs.Clocks.{Clocks}
use Rattle.cells.specs.Layout.{layout_of}
use Rattle.walks.specs.Automaton.{State}
use Rattle.walks.specs.Tables.{Table, Closed}
use Rattle.book.specs.Automaton.{held_automaton}
use Rattle.table.specs.declared.View.{View}
use Rattle.table.specs.Moves.{gain_at}
use Rattle.table.specs.Asks.{Sized, Known}
use Rattle.table_laws.specs.Meaning.{About, Seen}

-- Flags, one a place: where a run may begin, and where it may end.
pub record Flags (p : Pattern) (starts ends : List Bool) : Type 0 where
  pub starts_are : (k : ℕ) → k < p.placecount → get_or starts k false ≡ kinds.is_start (place_at p k).kind
  pub ends_are : (k : ℕ) → k < p.placecount → get_or ends k false ≡ kinds.is_end (place_at p k).kind

-- 1. A sound pattern's table is about its automaton with held clocks.
abbrev pub AboutPattern : Type 0
AboutPattern =
    (p : Pattern) → sound_of p ≡ true → (longest : ℕ) (starts ends : List Bool) → Flags p starts ends
    → About (held_automaton p) (layout_of p longest) p.edges p.edgecount starts ends

-- 2. Its layout and edges are fit for ticks, if the gains are.
abbrev pub KnownPattern : Type 0
KnownPattern =
    (p : Pattern) → sound_of p ≡ true → (longest : ℕ) → longest ≤ 65535 → (v : View)
    → ((k : ℕ) → k < p.placecount → Sized 8000000 (gain_at v.entered k))
    → ((k : ℕ) → k < p.placecount → Sized 8000000 (gain_at v.staying k))
    → Known (layout_of p longest) v p.edges p.edgecount

-- 3. Its cells suffice: whatever begins has one, and no move leaves them.
abbrev pub ClosedPattern : Type 0
ClosedPattern =
    (p : Pattern) → sound_of p ≡ true → (longest : ℕ) → longest ≤ 65535
    → (t : List ℤ) (all : List (State Clocks)) (U : Table ℤ Clocks) → Seen (layout_of p longest) t all U
    → Closed (held_automaton p) longest all
