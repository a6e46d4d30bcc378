-- Reports (document 01, 'Monitor tables', demand 3): of the runs that end at a time with a length in the window, the best score and
-- the least length that has it.
use Rattle.std.specs.Prelude.{◌≡◌, Bool, true, cond, ◌&&◌, List, [], ◌∷◌, ◌++◌, ℕ, ◌≤◌, T, leb}
use Rattle.std.proofs.Math.Option.{Option, none, some}
use Rattle.weighting.specs.Order.{best_of}
use Rattle.weighting.specs.Weighting.{Weighting}
use Rattle.weighting.specs.Shortest.{shortest}
use Rattle.walks.specs.Automaton.{Automaton, View, State, Same}
use Rattle.walks.specs.Walks.{Reach}
use Rattle.walks.specs.Runs.{Run}
use Rattle.walks.specs.Tables.{Table, opening, table_at}

-- A run may end in this state: an end place, entered just now, and at least `low` long.
unfoldable pub ending : {C E : Type 0} → Automaton C E → ℕ → State C → Bool
ending A low s = s.entered && (A.is_end s.place && leb low s.len)

-- What a cell reports, if a run may end in it: its worth and length.
abbrev pub entry : {W C : Type 0} → State C → Option W → Bool → List (W × ℕ)
entry s none b = []
entry s (some w) b = cond b ((w, s.len) ∷ []) []

-- What the cells report.
unfoldable pub entries : {W C E : Type 0} → Automaton C E → ℕ → Table W C → List (State C) → List (W × ℕ)
entries A low U [] = []
entries A low U (s ∷ ss) = entry s (U s) (ending A low s) ++ entries A low U ss

-- The report of a table: the best worth in it at which a run may end, and the least length that has it.
unfoldable pub report : {W C E : Type 0} → Weighting W → Automaton C E → ℕ → List (State C) → Table W C → Option (W × ℕ)
report 𝓦 A low all U = best_of (shortest 𝓦.order) (entries A low U all)

-- The report n ticks after the opening.
abbrev pub report_at : {W C E : Type 0} → Weighting W → Automaton C E → Same C → ℕ → List (State C) → ℕ → View W → ℕ → Option (W × ℕ)
report_at 𝓦 A Q high all low 𝓥 n = report 𝓦 A low all (table_at 𝓦 A Q high all 𝓥 (opening 𝓦 A Q) n)

-- n ticks after the table T₀ an end place has just been entered, with this length and worth.
pub record Arrives {W C E : Type 0} (𝓦 : Weighting W) (A : Automaton C E) (𝓥 : View W) (high : ℕ) (T₀ : Table W C) (n len : ℕ) (w : W) : Type 0 where
  pub there : State C
  pub len_is : there.len ≡ len
  pub just_entered : there.entered ≡ true
  pub at_end : T (A.is_end there.place)
  pub reached : Reach 𝓦 A 𝓥 high T₀ n there w

-- What the report n ticks after T₀ speaks of, by its worth and length: it arrives then, and its length is in the window.
abbrev pub MayEnd : {W C E : Type 0} → Weighting W → Automaton C E → View W → ℕ → ℕ → Table W C → ℕ → W × ℕ → Type 0
MayEnd 𝓦 A 𝓥 low high T₀ n r = (low ≤ r.1) × (r.1 ≤ high) × Arrives 𝓦 A 𝓥 high T₀ n r.1 r.0

-- From the opening, a run that the report at time n speaks of: it ends at n, and its length is in the window.
abbrev pub Wanted : {W C E : Type 0} → Weighting W → Automaton C E → View W → ℕ → ℕ → ℕ → W × ℕ → Type 0
Wanted 𝓦 A 𝓥 low high n r = (low ≤ r.1) × (r.1 ≤ high) × ((b : ℕ) × Run 𝓦 A 𝓥 b n r.1 r.0)

-- What a report says of those that it speaks of: one of them attains it; none is better; none as good is shorter. And without
-- one there is none.
abbrev pub Reported : {W : Type 0} → Weighting W → (Among : W × ℕ → Type 0) → Option (W × ℕ) → Type 0
Reported {W} 𝓦 Among none = (r : W × ℕ) → ¬ Among r
Reported {W} 𝓦 Among (some a) =
    Among a
    × ((r : W × ℕ) → Among r → T (𝓦.order.at_least a.0 r.0))
    × ((m : ℕ) → Among (a.0, m) → a.1 ≤ m)
