-- Reports speak of runs: what is reached with held clocks where a run may end is a run with plain clocks, and back.
use mathlib.Core.Path.{sym, subst}
use mathlib.Core.Option.{Option, none, some}
use mathlib.Core.List.{List, Memᴰ}
use Prim.Native.Nat.{ℕ, ◌≤◌}
use native.Mathlib.Omega.{arith}
use Rattle.weighting.specs.Order.{IsBest}
use Rattle.weighting.specs.Weighting.{Weighting}
use Rattle.weighting.specs.Shortest.{shortest}
use Rattle.weighting.proofs.Best.{IsBest_iff}
use Rattle.weighting.proofs.Shortest.{shortest-out}
use Rattle.walks.specs.Automaton.{Automaton, View, State, Same}
use Rattle.walks.specs.Holding.{Holding, held_at}
use Rattle.walks.specs.Tables.{opening, Closed, Within}
use Rattle.walks.specs.Reports.{report_at, MayEnd, Wanted, Reported}
use Rattle.walks.specs.Claims.{Worthy, ReportsBest, ReportsSay}
use Rattle.walks.proofs.States.{opening-holds}
use Rattle.walks.proofs.RunsAreWalks.{runs_are_held-walks}
use Rattle.walks.proofs.Entries.{reports-reached}

-- the opening table has nothing outside the cells
pub opening-within : {W C E : Type 0} (𝓦 : Weighting W) (A : Automaton C E) (Q : Same C) (high : ℕ) (all : List (State C)) → Closed A high all → Within all (opening 𝓦 A Q)
opening-within {C = C} 𝓦 A Q high all closed s w e =
    let k = opening-holds 𝓦 A Q s w e in
    subst (λ (y : State C). Memᴰ y all) (sym k.1) (closed.begins_in s.place k.0)

module _ {W C E : Type 0} (𝓦 : Weighting W) (A : Automaton C E) (Q : Same C) (𝓥 : View W) (high : ℕ) (worthy : Worthy 𝓦 𝓥) (hold : C → C) (h : Holding A hold) (all : List (State C)) (closed : Closed (held_at hold A) high all) (low : ℕ) (one-low : 1 ≤ low) (n : ℕ) where
  abbrev B : Automaton C E
  B = held_at hold A

  -- what may end is a run that is wanted
  end-wanted : (r : W × ℕ) → MayEnd 𝓦 B 𝓥 low high (opening 𝓦 B Q) n r → Wanted 𝓦 A 𝓥 low high n r
  end-wanted r k =
      (k.0, k.1, (runs_are_held-walks 𝓦 A Q 𝓥 high worthy hold h n r.1 r.0 (omega (arith, k.0)) k.1).1 k.2)

  wanted-end : (r : W × ℕ) → Wanted 𝓦 A 𝓥 low high n r → MayEnd 𝓦 B 𝓥 low high (opening 𝓦 B Q) n r
  wanted-end r k =
      (k.0, k.1, (runs_are_held-walks 𝓦 A Q 𝓥 high worthy hold h n r.1 r.0 (omega (arith, k.0)) k.1).0 k.2)

  wanted_best : IsBest (shortest 𝓦.order) (Wanted 𝓦 A 𝓥 low high n) (report_at 𝓦 B Q high all low 𝓥 n)
  wanted_best =
      IsBest_iff (shortest 𝓦.order) end-wanted wanted-end (report_at 𝓦 B Q high all low 𝓥 n)
      (reports-reached 𝓦 B Q 𝓥 high all closed (opening 𝓦 B Q) (opening-within 𝓦 B Q high all closed) low n)

-- the best, in words
pub reported : {W : Type 0} (𝓦 : Weighting W) (Among : W × ℕ → Type 0) (o : Option (W × ℕ)) → IsBest (shortest 𝓦.order) Among o → Reported 𝓦 Among o
reported 𝓦 Among none h = h
reported 𝓦 Among (some a) h = (
  h.0,
  λ r k. (shortest-out 𝓦.order a r (h.1 r k)).0,
  λ m k. (shortest-out 𝓦.order a (a.0, m) (h.1 (a.0, m) k)).1 (𝓦.order.self a.0),
)

module _ {W C E : Type 0} (𝓦 : Weighting W) (A : Automaton C E) (Q : Same C) (𝓥 : View W) (high : ℕ) where
  pub reports_best : ReportsBest 𝓦 A Q 𝓥 high
  reports_best worthy hold h all closed low one-low n = wanted_best 𝓦 A Q 𝓥 high worthy hold h all closed low one-low n

  pub reports_say : ReportsSay 𝓦 A Q 𝓥 high
  reports_say worthy hold h all closed low one-low n =
      reported 𝓦 (Wanted 𝓦 A 𝓥 low high n) (report_at 𝓦 (held_at hold A) Q high all low 𝓥 n)
      (reports_best worthy hold h all closed low one-low n)
