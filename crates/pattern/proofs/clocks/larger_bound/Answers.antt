use native.Mathlib.Omega.{arith}
use Rattle.pattern.proofs.CeilingLaws.{on_clock, on-other}
use Rattle.pattern.proofs.clocks.larger_bound.Goals as goal

pub returns-then-g-clock : goal.returns-then-g-clock
returns-then-g-clock c = let e = on_clock c.args.clock c.args.g c.if-g-clock.true in omega arith

pub returns-else-g-clock : goal.returns-else-g-clock
returns-else-g-clock c = let e = on-other c.args.clock c.args.g c.if-g-clock.false in omega arith
