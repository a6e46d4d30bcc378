-- One tick over one table, in place, loop by loop. That this is document 01's rule (a cell holds the best over all moves
-- into it of the moved worth) is a theorem of the crate table_laws.
use Rattle.std.specs.Prelude.{ℕ, zero, suc, ◌+◌, ◌-◌, ◌*◌, List, Bool, false, cond, eqb, get_or, set, replicate, ℤ, pos}
use Rattle.std.specs.Int.Signed.{lt_z}
use Rattle.weighting.specs.declared.Weighing.{Weighing}
use Rattle.weighting.specs.Order.{choose}
use Rattle.weighting.proofs.Weightings.{weighting_of}
use Rattle.weighting.specs.Cell.{mark, cell_of, held_in}
use Rattle.pattern.specs.declared.Edge.{Edge}
use Rattle.pattern.specs.Sound.{no_guard}
use Rattle.pattern.specs.Clocks.{Clocks, guards_hold, after_resets}
use Rattle.steps.specs.Steps.{edge_in}
use Rattle.cells.specs.declared.Layout.{Layout}
use Rattle.cells.specs.Layout.{cells_in}
use Rattle.cells.specs.Index.{code_of, clocks_at, ticked, block_at}
use Rattle.table.specs.declared.View.{View}
use Rattle.table.specs.declared.Sent.{Sent}

abbrev pub cell_at : List ℤ → ℕ → ℤ
cell_at t i = get_or t i (pos 0)

-- The mark in n cells from a.
unfoldable pub marked : List ℤ → ℕ → ℕ → List ℤ
marked t a zero = t
marked t a (suc n) = set (marked t a n) (a + n) mark

-- The mark from a to b.
abbrev pub cleared : List ℤ → ℕ → ℕ → List ℤ
cleared t a b = marked t a (b - a)

-- The first n turns of a loop.
unfoldable pub each : {A : Type 0} → (ℕ → A → A) → ℕ → A → A
each f zero t = t
each f (suc n) t = f n (each f n t)

-- ---- moves

-- Cell j after one more worth was offered to it.
abbrev pub offered : Weighing → List ℤ → ℕ → ℤ → List ℤ
offered w t j v = set t j (cell_of (choose (weighting_of w).order (held_in (cell_at t j)) v))

-- A worth with these clocks, both a tick later, moved along e into the block that starts at `to`: "then takes an edge out
-- of that place whose guards all hold; then sets the edge's reset clocks to 0".
unfoldable pub moved : Layout → Weighing → Edge → (to : ℕ) → Clocks → (worth : ℤ) → List ℤ → List ℤ
moved l w e to cs x t =
    cond (guards_hold cs e) (offered w t (to + code_of l.radices (after_resets e cs)) x) t

-- Staying is an edge from the place to itself, without guards, that resets no clock.
abbrev pub still : ℕ → Edge
still p = record { from = p; to = p; guards = replicate 4 no_guard; count = 0; resets = replicate 4 false }

-- From place p along e into length n + 1, just entered, if e leaves p.
unfoldable pub leave_of : Layout → Weighing → (n p : ℕ) → Clocks → (worth : ℤ) → Edge → List ℤ → List ℤ
leave_of l w n p cs x e t = cond (eqb e.from p) (moved l w e (block_at l (n + 1) 0 e.to) cs x t) t

-- Along the first i edges.
abbrev pub leaves_of : Layout → Weighing → List Edge → (n p : ℕ) → Clocks → (worth : ℤ) → (i : ℕ) → List ℤ → List ℤ
leaves_of l w es n p cs x i t = each (λ k. leave_of l w n p cs x (edge_in es k)) i t

-- All moves of one occupied cell of place p: it stays, then goes along each edge out of p.
unfoldable pub spread_of : Layout → Weighing → List Edge → (count n p : ℕ) → Clocks → (worth : ℤ) → List ℤ → List ℤ
spread_of l w es count n p cs x t =
    leaves_of l w es n p cs x count (moved l w (still p) (block_at l (n + 1) 1 p) cs x t)

-- Cell k, with these clocks, of the block that starts at `at`: if it holds a worth, all its moves after one tick.
unfoldable pub visit_of : Layout → Weighing → List Edge → (count : ℕ) → (gain : ℤ) → (n p at k : ℕ) → Clocks → List ℤ → List ℤ
visit_of l w es count g n p at k cs t =
    cond (lt_z mark (cell_at t (at + k)))
    (spread_of l w es count n p (ticked l.radices cs) ((weighting_of w).combine (cell_at t (at + k)) g) t)
    t

-- The same in two parts, as the code does it, of a cell that holds v: the stay, and what is then sent along the edges.
unfoldable pub stay_of : Layout → Weighing → (gain : ℤ) → (n p : ℕ) → Clocks → (v : ℤ) → List ℤ → List ℤ
stay_of l w g n p cs v t =
    moved l w (still p) (block_at l (n + 1) 1 p) (ticked l.radices cs) ((weighting_of w).combine v g) t

abbrev pub sent_of : Layout → Weighing → (gain : ℤ) → Clocks → (v : ℤ) → Sent
sent_of l w g cs v = record { clocks = ticked l.radices cs; worth = (weighting_of w).combine v g }

-- The first m cells of the block.
abbrev pub visits_of : Layout → Weighing → List Edge → (count : ℕ) → (gain : ℤ) → (n p at m : ℕ) → List ℤ → List ℤ
visits_of l w es count g n p at m t =
    each (λ k. visit_of l w es count g n p at k (clocks_at l.radices k)) m t

-- The whole block, unless its place cannot be stayed in.
unfoldable pub pass_of : Layout → Weighing → List Edge → (count : ℕ) → (gain : ℤ) → (n p at : ℕ) → List ℤ → List ℤ
pass_of l w es count g n p at t = cond (lt_z mark g) (visits_of l w es count g n p at l.block t) t

-- ---- rows

-- What a tick gains in a place.
abbrev pub gain_at : List ℤ → ℕ → ℤ
gain_at gs p = get_or gs p (pos 0)

-- What a tick gains in a stage: 0 is just entered, 1 is staying.
abbrev pub gain_in : (entered staying : ℤ) → (stage : ℕ) → ℤ
gain_in g h stage = cond (eqb stage 0) g h

-- The cells of length n in place p: those just entered, then those staying.
unfoldable pub place_of : Layout → Weighing → List Edge → (count : ℕ) → (entered staying : ℤ) → (n p : ℕ) → List ℤ → List ℤ
place_of l w es count g h n p t =
    pass_of l w es count h n p (block_at l n 1 p) (pass_of l w es count g n p (block_at l n 0 p) t)

-- The first m places.
abbrev pub places_of : Layout → Weighing → View → List Edge → (count n m : ℕ) → List ℤ → List ℤ
places_of l w v es count n m t =
    each (λ p. place_of l w es count (gain_at v.entered p) (gain_at v.staying p) n p) m t

-- Row n + 1 anew, from row n.
unfoldable pub row_of : Layout → Weighing → View → List Edge → (count n : ℕ) → List ℤ → List ℤ
row_of l w v es count n t =
    places_of l w v es count n l.places (cleared t ((n + 1) * l.row) ((n + 1) * l.row + l.row))

-- Rows n to 1 made anew, each from the row below it, the longest first.
unfoldable pub rows_of : Layout → Weighing → View → List Edge → (count n : ℕ) → List ℤ → List ℤ
rows_of l w v es count zero t = t
rows_of l w v es count (suc n) t = rows_of l w v es count n (row_of l w v es count n t)

-- The empty run's worth in the first p places, if a run may begin there; a block has `size` cells.
unfoldable pub starts_of : (size : ℕ) → (unit : ℤ) → List Bool → ℕ → List ℤ → List ℤ
starts_of size unit starts zero t = t
starts_of size unit starts (suc p) t =
    cond (get_or starts p false)
    (set (starts_of size unit starts p t) (p * size) unit)
    (starts_of size unit starts p t)

-- "a start place with length 0, stage 0 and clocks 0 holds the empty run's worth"
abbrev pub begun : Layout → Weighing → List Bool → List ℤ → List ℤ
begun l w starts t = starts_of l.block (weighting_of w).unit starts l.places t

-- The table one tick later.
unfoldable pub tick_of : Layout → Weighing → View → List Edge → (count : ℕ) → List Bool → List ℤ → List ℤ
tick_of l w v es count starts t =
    begun l w starts (cleared (rows_of l w v es count l.high t) 0 l.row)

-- The opened table: all cells needed are marks, but for the empty runs.
unfoldable pub open_of : Layout → Weighing → List Bool → List ℤ → List ℤ
open_of l w starts t = begun l w starts (cleared t 0 (cells_in l))
