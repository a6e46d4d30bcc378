-- The report of a tick, loop by loop: the best of what the tick offers to end places just entered, and its length. Lengths
-- fall, and what is at least as good takes the place of what is longer, so the shortest of the best is left. That this is
-- the report of the table one tick later is a theorem of the crate table_laws.
use Rattle.std.specs.Prelude.{ℕ, zero, suc, ◌+◌, List, Option, Some, None, Bool, false, cond, ◌&&◌, eqb, ltb, get_or, replicate, ℤ}
use Rattle.std.specs.Int.Signed.{lt_z}
use Rattle.weighting.specs.declared.Weighing.{Weighing}
use Rattle.weighting.proofs.Weightings.{weighting_of}
use Rattle.weighting.specs.Cell.{mark}
use Rattle.pattern.specs.declared.Edge.{Edge}
use Rattle.pattern.specs.Clocks.{Clocks, guards_hold}
use Rattle.cells.specs.declared.Layout.{Layout}
use Rattle.cells.specs.Index.{clocks_at, ticked, block_at}
use Rattle.table.specs.declared.View.{View}
use Rattle.table.specs.declared.report.Report.{Report}
use Rattle.steps.specs.Steps.{edge_in}
use Rattle.table.specs.Moves.{cell_at, each, gain_at}

-- A worth v of length n, after the report r: what is as good takes its place.
unfoldable pub noted : Weighing → Option Report → ℤ → ℕ → Option Report
noted w None v n = Some (record { score = v; length = n })
noted w (Some r) v n =
    cond ((weighting_of w).order.at_least v r.score) (Some (record { score = v; length = n })) (Some r)

-- A worth with these clocks, both a tick later, goes along e to length n + 1: noted if a run may end where e leads.
unfoldable pub told_move : Weighing → (tells : List Bool) → (n : ℕ) → Clocks → (worth : ℤ) → Edge → Option Report → Option Report
told_move w tells n cs x e r = cond (guards_hold cs e && get_or tells e.to false) (noted w r x (n + 1)) r

-- The same, if e leaves place p.
unfoldable pub told_leave : Weighing → (tells : List Bool) → (n p : ℕ) → Clocks → (worth : ℤ) → Edge → Option Report → Option Report
told_leave w tells n p cs x e r = cond (eqb e.from p) (told_move w tells n cs x e r) r

-- Along the first i edges.
abbrev pub told_leaves : Weighing → List Edge → (tells : List Bool) → (n p : ℕ) → Clocks → (worth : ℤ) → (i : ℕ) → Option Report → Option Report
told_leaves w es tells n p cs x i r = each (λ k. told_leave w tells n p cs x (edge_in es k)) i r

-- Cell k, with these clocks, of the block of length n and place p that starts at `at`: if it holds a worth, all its moves.
unfoldable pub told_visit : Layout → Weighing → List Edge → (count : ℕ) → (tells : List Bool) → (gain : ℤ) → (n p at k : ℕ) → Clocks → List ℤ → Option Report → Option Report
told_visit l w es count tells g n p at k cs t r =
    cond (lt_z mark (cell_at t (at + k)))
    (told_leaves w es tells n p (ticked l.radices cs) ((weighting_of w).combine (cell_at t (at + k)) g) count r)
    r

-- The first m cells of the block.
abbrev pub told_visits : Layout → Weighing → List Edge → (count : ℕ) → (tells : List Bool) → (gain : ℤ) → (n p at m : ℕ) → List ℤ → Option Report → Option Report
told_visits l w es count tells g n p at m t r =
    each (λ k. told_visit l w es count tells g n p at k (clocks_at l.radices k) t) m r

-- The whole block, unless its place cannot be stayed in.
unfoldable pub told_pass : Layout → Weighing → List Edge → (count : ℕ) → (tells : List Bool) → (gain : ℤ) → (n p at : ℕ) → List ℤ → Option Report → Option Report
told_pass l w es count tells g n p at t r = cond (lt_z mark g) (told_visits l w es count tells g n p at l.block t r) r

-- Both stages of a place.
unfoldable pub told_place : Layout → Weighing → List Edge → (count : ℕ) → (tells : List Bool) → (entered staying : ℤ) → (n p : ℕ) → List ℤ → Option Report → Option Report
told_place l w es count tells g h n p t r =
    told_pass l w es count tells h n p (block_at l n 1 p) t (told_pass l w es count tells g n p (block_at l n 0 p) t r)

-- The first m places.
abbrev pub told_places : Layout → Weighing → View → List Edge → (count : ℕ) → (tells : List Bool) → (n m : ℕ) → List ℤ → Option Report → Option Report
told_places l w v es count tells n m t r =
    each (λ p. told_place l w es count tells (gain_at v.entered p) (gain_at v.staying p) n p t) m r

-- Where a run of this length may end: "whose length is at least the window's low".
abbrev pub tells_at : (ends : List Bool) → (low ticks : ℕ) → List Bool
tells_at ends low ticks = cond (ltb ticks low) (replicate 16 false) ends

-- Row n, into length n + 1.
abbrev pub told_row : Layout → Weighing → View → List Edge → (count : ℕ) → (ends : List Bool) → (low n : ℕ) → List ℤ → Option Report → Option Report
told_row l w v es count ends low n t r = told_places l w v es count (tells_at ends low (n + 1)) n l.places t r

-- The rows below n, the longest first.
unfoldable pub told_rows : Layout → Weighing → View → List Edge → (count : ℕ) → (ends : List Bool) → (low n : ℕ) → List ℤ → Option Report → Option Report
told_rows l w v es count ends low zero t r = r
told_rows l w v es count ends low (suc n) t r = told_rows l w v es count ends low n t (told_row l w v es count ends low n t r)

-- All of them.
abbrev pub told_of : Layout → Weighing → View → List Edge → (count : ℕ) → (ends : List Bool) → (low : ℕ) → List ℤ → Option Report
told_of l w v es count ends low t = told_rows l w v es count ends low l.high t None
