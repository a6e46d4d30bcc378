-- The ticks of a piece as the code goes through them. That this is what feeding means is proved in
-- the crate feed (proofs/Meaning).
use Rattle.std.specs.Prelude.{ℕ, zero, suc, ◌+◌, ◌≤◌, List, ◌++◌, map, Option, Some, None, Bool, true, false, cond, drop, set, ℤ, pos}
use Rattle.weighting.specs.declared.Weighing.{Weighing}
use Rattle.pattern.specs.declared.Kind.{Kind}
use Rattle.pattern.specs.declared.Edge.{Edge}
use Rattle.pattern.specs.declared.Pattern.{Pattern}
use Rattle.pattern.specs.Kinds.{is_start, is_end}
use Rattle.pattern.specs.Distance.{Sample}
use Rattle.book.specs.View.{gain_in}
use Rattle.cells.specs.declared.Layout.{Layout}
use Rattle.table.specs.declared.fixed.Ground.{Ground}
use Rattle.table.specs.declared.View.{View}
use Rattle.table.specs.declared.report.Report.{Report}
use Rattle.table.specs.Moves.{tick_of}
use Rattle.table.specs.Reports.{told_of}
use Rattle.table.specs.Asks.{Gains, Whole}
use Rattle.monitor.specs.Cells.{layout, up_to}

-- Whether a run may end, or else begin, in a place of this kind.
abbrev pub kind_flag : (ending : Bool) → Kind → Bool
kind_flag ending k = cond ending (is_end k) (is_start k)

abbrev pub kind_flags : (ending : Bool) → Pattern → List Bool
kind_flags ending p = map (λ l. kind_flag ending l.kind) p.places

-- What a tick gains in each place.
abbrev pub gains_of : Pattern → (last now : Sample) → (entered : Bool) → List ℤ
gains_of p last now entered = map (λ l. gain_in p.weighing l last now entered) p.places

abbrev pub view_in : Pattern → (last now : Sample) → View
view_in p last now = record { entered = gains_of p last now true; staying = gains_of p last now false }

-- What all ticks of a piece have in common.
pub record Common : Type 0 where
  pub layout : Layout
  pub weighing : Weighing
  pub edges : List Edge
  pub count : ℕ
  pub starts : List Bool
  pub ends : List Bool
  pub low : ℕ

-- The same of what the code makes for a call.
abbrev pub common : Ground → Common
common g =
    record { layout = g.layout; weighing = g.weighing; edges = g.edges; count = g.count; starts = g.starts; ends = g.ends; low = g.low }

-- The same of a pattern.
abbrev pub common_of : Pattern → Common
common_of p =
    record {
      layout = layout p;
      weighing = p.weighing;
      edges = p.edges;
      count = p.edgecount;
      starts = kind_flags false p;
      ends = kind_flags true p;
      low = p.low;
    }

-- The first tick sees one view, the later ones another.
abbrev pub view_at : View → View → ℕ → View
view_at v u zero = v
view_at v u (suc i) = u

-- The table after each tick.
unfoldable pub table_to : Common → View → View → List ℤ → ℕ → List ℤ
table_to g v u t zero = t
table_to g v u t (suc i) =
    tick_of g.layout g.weighing (view_at v u i) g.edges g.count g.starts (table_to g v u t i)

-- The report of tick i.
abbrev pub report_in : Common → View → View → List ℤ → ℕ → Option Report
report_in g v u t i =
    told_of g.layout g.weighing (view_at v u i) g.edges g.count g.ends g.low (table_to g v u t i)

-- A report as the report slices hold it: "length 0 with score 0 means no run".
abbrev pub score_of : Option Report → ℤ
score_of (Some r) = r.score
score_of None = pos 0

abbrev pub length_of : Option Report → ℕ
length_of (Some r) = r.length
length_of None = 0

-- The report slices once n ticks are told.
unfoldable pub scores_to : Common → View → View → List ℤ → List ℤ → ℕ → List ℤ
scores_to g v u t scores n = map (λ i. score_of (report_in g v u t i)) (up_to n) ++ drop n scores

unfoldable pub lengths_to : Common → View → View → List ℤ → List ℕ → ℕ → List ℕ
lengths_to g v u t lengths n = map (λ i. length_of (report_in g v u t i)) (up_to n) ++ drop n lengths

-- A list once n places from one on hold the same.
unfoldable pub repeated : {A : Type 0} → List A → (from n : ℕ) → A → List A
repeated l from zero a = l
repeated l from (suc n) a = set (repeated l from n a) (from + n) a

-- What the ticks ask: a table that can be moved under either view, and room for the reports.
pub record Telling (l : Layout) (v u : View) (t : List ℤ) (scores lengths duration : ℕ) : Type 0 where
  pub first : Gains l v
  pub later : Gains l u
  pub whole : Whole t l
  pub scores_long : duration ≤ scores
  pub lengths_long : duration ≤ lengths
