-- `cells` is the product of the rows and their cells, which is small.
use native.Mathlib.Omega.{arith}
use Rattle.cells.proofs.Layout.cells.Goals as goal

pub overflow_add-result : goal.overflow_add-result
overflow_add-result c = let s = c.self.invariant.short in omega arith

pub overflow_mul-result : goal.overflow_mul-result
overflow_mul-result c = let s = c.self.invariant.small in omega arith
