-- What is proved: on a book, runs as document 01 prices them are the runs of the pattern's automaton, with the same worth,
-- begin and length; unfinished runs are what it reaches; what a stay observes is worth what its ticks gain; and holding the
-- clocks at their ceilings changes no run.
use Rattle.std.specs.Prelude.{ℕ, ◌≤◌, ◌≡◌, Bool, true, ◌↔◌, List, map, length, ℤ}
use Rattle.weighting.specs.declared.Weighing.{Weighing}
use Rattle.weighting.specs.declared.Weighing.TheVariants.{Margin}
use Rattle.weighting.specs.Weighting.{combine_all}
use Rattle.weighting.proofs.Weightings.{weighting_of}
use Rattle.pattern.specs.declared.Pattern.{Pattern}
use Rattle.pattern.specs.Sound.{sound_of}
use Rattle.pattern.specs.InUse.{place_at}
use Rattle.pattern.specs.Kinds.{is_end}
use Rattle.pattern.specs.Clocks.{Clocks}
use Rattle.record.specs.Record.{Book}
use Rattle.record.specs.Joined.{joined}
use Rattle.walks.specs.Automaton.{State}
use Rattle.walks.specs.Walks.{Reach}
use Rattle.walks.specs.Runs.{Run}
use Rattle.walks.specs.Holding.{Holding}
use Rattle.walks.specs.Tables.{opening}
use Rattle.walks.specs.Claims.{Worthy}
use Rattle.book.specs.Automaton.{automaton_of, same_clocks, held}
use Rattle.book.specs.View.{gains_by, view_of}
use Rattle.book.specs.PricedRun.{PricedRun}
use Rattle.book.specs.Unfinished.{Unfinished}

abbrev pub PricedAreRuns : Type 0
PricedAreRuns =
    (p : Pattern) → sound_of p ≡ true → (b : Book) (begin end len : ℕ) (w : ℤ) → end ≤ length b
    → PricedRun p b begin end len w ↔ Run (weighting_of p.weighing) (automaton_of p) (view_of p b) begin end len w

-- Unfinished runs of up to `high` ticks are what the automaton reaches, its clocks without any ceiling.
abbrev pub UnfinishedAreReached : Type 0
UnfinishedAreReached =
    (p : Pattern) → sound_of p ≡ true → (b : Book) (high now : ℕ) (s : State Clocks) (w : ℤ) → now ≤ length b → s.len ≤ high
    → Unfinished p b now s w
    ↔ Reach (weighting_of p.weighing) (automaton_of p) (view_of p b) high (opening (weighting_of p.weighing) (automaton_of p) same_clocks) now s w

-- A run that is priced is an unfinished one that has just entered an end place, of the same worth, and the other way round.
abbrev pub RunsWereUnfinished : Type 0
RunsWereUnfinished =
    (p : Pattern) → sound_of p ≡ true → (b : Book) (end len : ℕ) (w : ℤ) → end ≤ length b → 1 ≤ len
    → ((begin : ℕ) × PricedRun p b begin end len w)
    ↔ ((s : State Clocks) × (s.len ≡ len) × (s.entered ≡ true) × (is_end (place_at p s.place).kind ≡ true) × Unfinished p b end s w)

-- Observations together are worth what the ticks gain one by one, whatever tick came before the first: by any test of neighbours
-- and any worth of a tick. In margin, where each tick counts, ticks that are one must be worth the same.
abbrev pub ObservedGains : Type 1
ObservedGains =
    (A : Type 0) (w : Weighing) (same : A → A → Bool) (worth : A → ℤ) → (w ≡ Margin → (x y : A) → same x y ≡ true → worth x ≡ worth y)
    → (last : A) (b : List A) → combine_all (weighting_of w) (map worth (joined same b)) ≡ combine_all (weighting_of w) (gains_by w same worth last true b)

abbrev pub GainsAreWorths : Type 0
GainsAreWorths = (p : Pattern) (b : Book) → Worthy (weighting_of p.weighing) (view_of p b)

abbrev pub CeilingsHold : Type 0
CeilingsHold = (p : Pattern) → sound_of p ≡ true → Holding (automaton_of p) (held p)
