-- The definitions of Moves and Reports over what never changes in a call, for contracts.
use Rattle.std.specs.Prelude.{ℕ, ◌+◌, List, Option, Bool, ℤ}
use Rattle.cells.specs.Index.{block_at}
use Rattle.steps.specs.Steps.{edge_in}
use Rattle.table.specs.declared.fixed.Ground.{Ground}
use Rattle.table.specs.declared.View.{View}
use Rattle.table.specs.declared.Block.{Block}
use Rattle.table.specs.declared.Sent.{Sent}
use Rattle.table.specs.declared.report.Report.{Report}
use Rattle.pattern.specs.Clocks.{Clocks}
use Rattle.table.specs.Moves.{moved, stay_of, sent_of, leaves_of, visits_of, pass_of, place_of, places_of, row_of, rows_of, tick_of}
use Rattle.table.specs.Reports.{told_move, told_leaves, told_visits, told_pass, told_place, told_places, told_row, told_of}

-- ---- what is left in the table

-- Along edge i, into length n + 1.
abbrev pub leave_in : Ground → (n i : ℕ) → Sent → List ℤ → List ℤ
leave_in g n i s t =
    moved g.layout g.weighing (edge_in g.edges i) (block_at g.layout (n + 1) 0 (edge_in g.edges i).to) s.clocks s.worth t

-- Along all edges out of place p.
abbrev pub leaves_in : Ground → (n p : ℕ) → Sent → List ℤ → List ℤ
leaves_in g n p s t = leaves_of g.layout g.weighing g.edges n p s.clocks s.worth g.count t

-- A worth of the block stays, and is sent.
abbrev pub stay_in : Ground → Block → Clocks → (worth : ℤ) → List ℤ → List ℤ
stay_in g b cs x t = stay_of g.layout g.weighing b.gain b.len b.place cs x t

abbrev pub sent_in : Ground → Block → Clocks → (worth : ℤ) → Sent
sent_in g b cs x = sent_of g.layout g.weighing b.gain cs x

-- All cells of the block, and the block unless its place cannot be stayed in.
abbrev pub visits_in : Ground → Block → List ℤ → List ℤ
visits_in g b t = visits_of g.layout g.weighing g.edges g.count b.gain b.len b.place b.start g.layout.block t

abbrev pub pass_in : Ground → Block → List ℤ → List ℤ
pass_in g b t = pass_of g.layout g.weighing g.edges g.count b.gain b.len b.place b.start t

-- Both stages of place p, and all places, of length n.
abbrev pub place_in : Ground → (entered staying : ℤ) → (n p : ℕ) → List ℤ → List ℤ
place_in g x y n p t = place_of g.layout g.weighing g.edges g.count x y n p t

abbrev pub places_in : Ground → View → (n : ℕ) → List ℤ → List ℤ
places_in g v n t = places_of g.layout g.weighing v g.edges g.count n g.layout.places t

-- Row n + 1 anew, all rows, and the table one tick later.
abbrev pub row_in : Ground → View → (n : ℕ) → List ℤ → List ℤ
row_in g v n t = row_of g.layout g.weighing v g.edges g.count n t

abbrev pub rows_in : Ground → View → List ℤ → List ℤ
rows_in g v t = rows_of g.layout g.weighing v g.edges g.count g.layout.high t

abbrev pub tick_in : Ground → View → List ℤ → List ℤ
tick_in g v t = tick_of g.layout g.weighing v g.edges g.count g.starts t

-- ---- what is told of it

abbrev pub told_leave_in : Ground → (tells : List Bool) → (n i : ℕ) → Sent → Option Report → Option Report
told_leave_in g tells n i s r = told_move g.weighing tells n s.clocks s.worth (edge_in g.edges i) r

abbrev pub told_leaves_in : Ground → (tells : List Bool) → (n p : ℕ) → Sent → Option Report → Option Report
told_leaves_in g tells n p s r = told_leaves g.weighing g.edges tells n p s.clocks s.worth g.count r

abbrev pub told_visits_in : Ground → (tells : List Bool) → Block → List ℤ → Option Report → Option Report
told_visits_in g tells b t r =
    told_visits g.layout g.weighing g.edges g.count tells b.gain b.len b.place b.start g.layout.block t r

abbrev pub told_pass_in : Ground → (tells : List Bool) → Block → List ℤ → Option Report → Option Report
told_pass_in g tells b t r = told_pass g.layout g.weighing g.edges g.count tells b.gain b.len b.place b.start t r

abbrev pub told_place_in : Ground → (tells : List Bool) → (entered staying : ℤ) → (n p : ℕ) → List ℤ → Option Report → Option Report
told_place_in g tells x y n p t r = told_place g.layout g.weighing g.edges g.count tells x y n p t r

abbrev pub told_places_in : Ground → View → (tells : List Bool) → (n : ℕ) → List ℤ → Option Report → Option Report
told_places_in g v tells n t r = told_places g.layout g.weighing v g.edges g.count tells n g.layout.places t r

abbrev pub told_row_in : Ground → View → (n : ℕ) → List ℤ → Option Report → Option Report
told_row_in g v n t r = told_row g.layout g.weighing v g.edges g.count g.ends g.low n t r

abbrev pub told_in : Ground → View → List ℤ → Option Report
told_in g v t = told_of g.layout g.weighing v g.edges g.count g.ends g.low t
