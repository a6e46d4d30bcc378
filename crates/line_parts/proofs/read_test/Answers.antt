-- `read_test` meets its contract.
use Rattle.std.proofs.Common.{rules}
use Rattle.line_parts.proofs.Either.{of_either}
use Rattle.line_parts.proofs.read_test.Goals as goal

pub returns : goal.returns
returns c = of_either _ _ c.or_else.result c.read_side.ensures c.or_else.ensures (λ k. search rules)
