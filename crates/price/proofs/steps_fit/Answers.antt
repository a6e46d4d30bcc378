-- `steps_fit` is what 9 asks.
use Rattle.price.specs.Price.{steps_fit}
use Rattle.price.proofs.steps_fit.Goals as goal

pub returns : goal.returns
unfolding steps_fit
returns c = rw (c.from.ensures, c.ticks.ensures)
