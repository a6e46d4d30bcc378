-- How a step is made from an edge, for the contracts of the functions that make it.
use Rattle.std.specs.Prelude.{ℕ, zero, suc, ◌+◌, min, max, [], ◌∷◌, cond, eqb, get_or}
use Rattle.pattern.specs.declared.Sign.{Sign}
use Rattle.pattern.specs.declared.Sign.TheVariants.{Less, AtMost, More, AtLeast}
use Rattle.pattern.specs.declared.Guard.{Guard}
use Rattle.pattern.specs.declared.Edge.{Edge}
use Rattle.pattern.specs.Sound.{no_guard}
use Rattle.steps.specs.declared.Span.{Span}
use Rattle.steps.specs.declared.Step.{Step}

-- What a guard leaves of a span.
abbrev pub narrowed : Span → Sign → (bound : ℕ) → Span
narrowed s Less b = record { low = s.low; upto = min s.upto b }
narrowed s AtMost b = record { low = s.low; upto = min s.upto (b + 1) }
narrowed s More b = record { low = max s.low (b + 1); upto = s.upto }
narrowed s AtLeast b = record { low = max s.low b; upto = s.upto }

-- The same, if the guard asks about clock k.
abbrev pub narrowed_on : (k : ℕ) → Guard → Span → Span
narrowed_on k g s = cond (eqb g.clock k) (narrowed s g.sign g.bound) s

-- What the first n guards leave clock k.
unfoldable pub span_of : Edge → (k n : ℕ) → Span
span_of e k zero = record { low = 0; upto = 65536 }
span_of e k (suc n) = narrowed_on k (get_or e.guards n no_guard) (span_of e k n)

-- The step of an edge.
abbrev pub step_of : Edge → Step
step_of e =
    record {
      spans = span_of e 0 (min e.count 4) ∷ span_of e 1 (min e.count 4) ∷ span_of e 2 (min e.count 4) ∷ span_of e 3 (min e.count 4) ∷ [];
      resets = e.resets;
      to = e.to;
    }
