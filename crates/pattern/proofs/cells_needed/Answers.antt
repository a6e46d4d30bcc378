use native.Mathlib.Omega.{arith}
use Rattle.pattern.proofs.CellLaws.{front_low, all-low, needed_is}
use Rattle.pattern.proofs.cells_needed.Goals as goal

-- What is promised stands first, so that a wrong body is refused there (decision 64).
pub returns : goal.returns
returns c = rw (c.from.ensures, c.from-2.ensures, c.radices.ensures, ← c.p.view_is) (needed_is c.p.inside.pattern c.p.invariant)

pub overflow_mul-result-2 : goal.overflow_mul-result-2
overflow_mul-result-2 c = let l = front_low c.p.inside.pattern c.p.invariant in rw (c.from.ensures, c.from-2.ensures) (omega arith)

pub overflow_mul-result-3 : goal.overflow_mul-result-3
overflow_mul-result-3 c = rw (c.from.ensures, c.from-2.ensures, c.radices.ensures, ← c.p.view_is) (record { fits = all-low c.p.inside.pattern c.p.invariant })
