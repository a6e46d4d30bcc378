-- What is claimed, and proved in proofs/: for an arbitrary weighting, automaton and view of ticks.
use Rattle.std.specs.Prelude.{◌≡◌, Bool, ◌↔◌, ℕ, suc, ◌+◌, ◌≤◌, ◌<◌, T}
use Rattle.std.proofs.Math.Option.{none, some}
use mathlib.Core.List.{List, Memᴰ}
use Rattle.weighting.specs.Order.{IsBest}
use Rattle.weighting.specs.Weighting.{Weighting}
use Rattle.weighting.specs.Shortest.{shortest}
use Rattle.walks.specs.Automaton.{Automaton, TickView, View, State, Same}
use Rattle.walks.specs.Walks.{Reach}
use Rattle.walks.specs.Runs.{Run}
use Rattle.walks.specs.Holding.{Holding, held_at, hold_state}
use Rattle.walks.specs.Tables.{Table, opening, offers, offered, next, table_at, Closed, Within}
use Rattle.walks.specs.Reports.{report, report_at, Arrives, MayEnd, Wanted, Reported}

-- Every gain of the view is a worth.
abbrev pub Worthy : {W : Type 0} → Weighting W → View W → Type 0
Worthy {W} 𝓦 𝓥 = (t : ℕ) (f : Bool) (p : ℕ) (g : W) → 𝓥 t f p ≡ some g → T (𝓦.worth g)

module _ {W C E : Type 0} (𝓦 : Weighting W) (A : Automaton C E) (Q : Same C) (𝓥 : View W) (high : ℕ) where
  -- 1. Runs are walks, with the same worth and length.
  abbrev pub RunsAreWalks : Type 0
  RunsAreWalks =
      Worthy 𝓦 𝓥 → (n len : ℕ) (w : W) → 1 ≤ len → len ≤ high
      → ((b : ℕ) × Run 𝓦 A 𝓥 b n len w) ↔ Arrives 𝓦 A 𝓥 high (opening 𝓦 A Q) n len w

  -- 2. An automaton that holds the clocks reaches the same states, with their clocks held, and with the same worths. So runs
  -- are the walks of this automaton, too.
  abbrev pub HeldWalks : Type 0
  HeldWalks =
      (hold : C → C) → Holding A hold → (n : ℕ) (r : State C) (w : W)
      → ((s : State C) × (hold_state hold s ≡ r) × Reach 𝓦 A 𝓥 high (opening 𝓦 A Q) n s w)
      ↔ Reach 𝓦 (held_at hold A) 𝓥 high (opening 𝓦 (held_at hold A) Q) n r w

  abbrev pub RunsAreHeldWalks : Type 0
  RunsAreHeldWalks =
      Worthy 𝓦 𝓥 → (hold : C → C) → Holding A hold → (n len : ℕ) (w : W) → 1 ≤ len → len ≤ high
      → ((b : ℕ) × Run 𝓦 A 𝓥 b n len w) ↔ Arrives 𝓦 (held_at hold A) 𝓥 high (opening 𝓦 (held_at hold A) Q) n len w

  -- 3. From any table, a cell is the best of what is reached there.
  abbrev pub TableBest : Type 0
  TableBest =
      (all : List (State C)) → Closed A high all → (T₀ : Table W C) → Within all T₀ → (n : ℕ) (s : State C)
      → IsBest 𝓦.order (Reach 𝓦 A 𝓥 high T₀ n s) (table_at 𝓦 A Q high all 𝓥 T₀ n s)

  -- And its report is the best of what may end there, the shortest among equals.
  abbrev pub ReportsReached : Type 0
  ReportsReached =
      (all : List (State C)) → Closed A high all → (T₀ : Table W C) → Within all T₀ → (low n : ℕ)
      → IsBest (shortest 𝓦.order) (MayEnd 𝓦 A 𝓥 low high T₀ n) (report 𝓦 A low all (table_at 𝓦 A Q high all 𝓥 T₀ n))

  -- 4. The table with held clocks reports the best of the runs with plain ones, the shortest among equals.
  abbrev pub ReportsBest : Type 0
  ReportsBest =
      Worthy 𝓦 𝓥 → (hold : C → C) → Holding A hold → (all : List (State C)) → Closed (held_at hold A) high all
      → (low : ℕ) → 1 ≤ low → (n : ℕ)
      → IsBest (shortest 𝓦.order) (Wanted 𝓦 A 𝓥 low high n) (report_at 𝓦 (held_at hold A) Q high all low 𝓥 n)

  -- The same, said of a run, its worth and its length.
  abbrev pub ReportsSay : Type 0
  ReportsSay =
      Worthy 𝓦 𝓥 → (hold : C → C) → Holding A hold → (all : List (State C)) → Closed (held_at hold A) high all
      → (low : ℕ) → 1 ≤ low → (n : ℕ)
      → Reported 𝓦 (Wanted 𝓦 A 𝓥 low high n) (report_at 𝓦 (held_at hold A) Q high all low 𝓥 n)

module _ {W C E : Type 0} (𝓦 : Weighting W) (A : Automaton C E) (Q : Same C) (high : ℕ) (all : List (State C)) where
  -- At each time after an opening the cells of length 0 are as the opening left them: the empty run's worth in the start places.
  abbrev pub EmptyRunHeld : Type 0
  EmptyRunHeld =
      (𝓥 : View W) (n : ℕ) (s : State C) → s.len ≡ 0
      → table_at 𝓦 A Q high all 𝓥 (opening 𝓦 A Q) n s ≡ opening 𝓦 A Q s

  -- 5. Cutting the ticks into calls changes nothing: a call that finds the table after m ticks, and sees n ticks more by a
  -- view of its own, leaves the table after m + n ticks.
  abbrev pub Cut : Type 0
  Cut =
      (𝓥 𝓥' : View W) (T₀ : Table W C) (m n : ℕ)
      → ((t : ℕ) (f : Bool) (p : ℕ) → t < n → 𝓥 (m + t) f p ≡ 𝓥' t f p)
      → table_at 𝓦 A Q high all 𝓥 T₀ (m + n) ≡ table_at 𝓦 A Q high all 𝓥' (table_at 𝓦 A Q high all 𝓥 T₀ m) n

  -- Only the ticks passed matter.
  abbrev pub OnlyPassed : Type 0
  OnlyPassed =
      (𝓥 𝓥' : View W) (T₀ : Table W C) (n : ℕ) → ((t : ℕ) (f : Bool) (p : ℕ) → t < n → 𝓥 t f p ≡ 𝓥' t f p)
      → table_at 𝓦 A Q high all 𝓥 T₀ n ≡ table_at 𝓦 A Q high all 𝓥' T₀ n

  -- Only the cells matter, to the table and to its report.
  abbrev pub OnlyCells : Type 0
  OnlyCells =
      (𝓥 : View W) (T₀ T₁ : Table W C) → ((s : State C) → Memᴰ s all → T₀ s ≡ T₁ s)
      → (n : ℕ) (s : State C) → Memᴰ s all → table_at 𝓦 A Q high all 𝓥 T₀ n s ≡ table_at 𝓦 A Q high all 𝓥 T₁ n s

  abbrev pub ReportsOnlyCells : Type 0
  ReportsOnlyCells =
      (low : ℕ) (U U' : Table W C) → ((s : State C) → Memᴰ s all → U s ≡ U' s)
      → report 𝓦 A low all U ≡ report 𝓦 A low all U'

  -- A cell depends on those cells only that are one tick shorter.
  abbrev pub OnlyShorter : Type 0
  OnlyShorter =
      (g : TickView W) (x : State C) (U U' : Table W C)
      → ((s : State C) → Memᴰ s all → suc s.len ≡ x.len → U s ≡ U' s)
      → next 𝓦 A Q high all g U x ≡ next 𝓦 A Q high all g U' x

  -- In whatever order the tick's offers are made, one by one, to cells that held nothing, the cells get what the table
  -- one tick later has, but for length 0.
  abbrev pub AnyOrder : Type 0
  AnyOrder =
      (g : TickView W) (U : Table W C) (cs : List (State C × W))
      → ((x : State C) (v : W) → Memᴰ (x, v) cs ↔ Memᴰ (x, v) (offers 𝓦 A high g U all))
      → (x : State C) → 0 < x.len → offered 𝓦.order Q (λ _. none) cs x ≡ next 𝓦 A Q high all g U x

  -- What the empty run has at length 0, and a tick more keeps at one length more, every cell has at its length.
  abbrev pub Kept : Type 1
  Kept =
      (P : ℕ → W → Type 0) → P 0 𝓦.unit → (𝓥 : View W)
      → ((t : ℕ) (f : Bool) (p : ℕ) (g : W) (l : ℕ) (w : W) → 𝓥 t f p ≡ some g → P l w → P (suc l) (𝓦.combine w g))
      → (T₀ : Table W C) → ((s : State C) (w : W) → Memᴰ s all → T₀ s ≡ some w → P s.len w)
      → (n : ℕ) (s : State C) (w : W) → Memᴰ s all → table_at 𝓦 A Q high all 𝓥 T₀ n s ≡ some w → P s.len w

  -- 6. After high + 1 ticks of which all but the first are alike, from any table, neither the table nor its report changes any
  -- more while further ones are like them.
  abbrev pub Still : Type 0
  Still =
      (𝓥 : View W) (g : TickView W) → ((t : ℕ) → 𝓥 (suc t) ≡ g) → (T₀ : Table W C) (n : ℕ) (s : State C) → s.len ≤ high
      → table_at 𝓦 A Q high all 𝓥 T₀ (suc high + n) s ≡ table_at 𝓦 A Q high all 𝓥 T₀ (suc high) s

  abbrev pub StillReports : Type 0
  StillReports =
      ((s : State C) → Memᴰ s all → s.len ≤ high) → (low : ℕ)
      → (𝓥 : View W) (g : TickView W) → ((t : ℕ) → 𝓥 (suc t) ≡ g) → (T₀ : Table W C) (n : ℕ)
      → report 𝓦 A low all (table_at 𝓦 A Q high all 𝓥 T₀ (suc high + n))
      ≡ report 𝓦 A low all (table_at 𝓦 A Q high all 𝓥 T₀ (suc high))
