-- What the edges of a pattern ask and do, so that a move along one needs no edge.
use Rattle.std.specs.Prelude.{ℕ, ◌<◌, ◌≡◌, Bool, true, false, cond, ◌&&◌, List, [], ◌∷◌, map, leb, ltb, length, get_or}
use Rattle.pattern.specs.declared.Edge.{Edge}
use Rattle.pattern.specs.Slots.{all}
use Rattle.pattern.specs.InUse.{guards_of}
use Rattle.pattern.specs.Clocks.{Clocks, clock_at, guards_hold, after_resets}
use Rattle.steps.specs.declared.Span.{Span}
use Rattle.steps.specs.declared.Step.{Step}

abbrev pub edge_in : List Edge → ℕ → Edge
edge_in es i = get_or es i (record { from = 0; to = 0; guards = []; count = 0; resets = [] })

abbrev pub step_in : List Step → ℕ → Step
step_in ss i = get_or ss i (record { spans = []; resets = []; to = 0 })

-- A value of the span: from `low` to below `upto`.
abbrev pub in_span : Span → (value : ℕ) → Bool
in_span s x = leb s.low x && ltb x s.upto

abbrev pub span_at : Step → (k : ℕ) → Span
span_at s k = get_or s.spans k (record { low = 0; upto = 0 })

-- The four clocks, by number.
abbrev pub four_clocks : List ℕ
four_clocks = 0 ∷ 1 ∷ 2 ∷ 3 ∷ []

-- Every clock's value is in its span.
abbrev pub goes_in : Step → Clocks → Bool
goes_in s cs = all (λ k. in_span (span_at s k) (clock_at cs k)) four_clocks

-- A clock, unless it is reset.
abbrev pub kept_by : (reset : Bool) → (value : ℕ) → ℕ
kept_by r x = cond r 0 x

-- The clocks once those that the step resets are 0.
abbrev pub after_in : Step → Clocks → Clocks
after_in s cs = map (λ k. kept_by (get_or s.resets k false) (clock_at cs k)) four_clocks

-- The step does what the edge does, with four clocks below 65,536.
pub record StepOf (e : Edge) (s : Step) : Type 0 where
  pub leads : s.to ≡ e.to
  pub goes : (cs : Clocks) → ((k : ℕ) → k < 4 → clock_at cs k < 65536) → goes_in s cs ≡ guards_hold cs e
  pub after : (cs : Clocks) → length cs ≡ 4 → after_in s cs ≡ after_resets e cs

-- A step for each edge.
pub record Steps (es : List Edge) (count : ℕ) (ss : List Step) : Type 0 where
  pub at : (i : ℕ) → i < count → StepOf (edge_in es i) (step_in ss i)

-- What is asked of an edge: its guards are about the four clocks.
pub record Fit (e : Edge) : Type 0 where
  pub guards : length e.guards ≡ 4
  pub resets : length e.resets ≡ 4
  pub clocks : all (λ g. ltb g.clock 4) (guards_of e) ≡ true
