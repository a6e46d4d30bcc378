use mathlib.Core.Path.{◌∙◌}
use mir.Syntax.{w64}
use mir.Facts.{to_z-of_z}
use Rattle.book.specs.View.{gain_by}
use Rattle.feed_ticks.proofs.gain.Goals as goal

pub returns-then-tick_counts : goal.returns-then-tick_counts
unfolding gain_by
returns-then-tick_counts c = rw (← c.tick_counts.ensures, c.if-tick_counts.true) (to_z-of_z {w = w64} (record { sfits = c.place_worth.type_inv }) ∙ c.place_worth.ensures)

pub returns-else-tick_counts : goal.returns-else-tick_counts
unfolding gain_by
returns-else-tick_counts c = rw (← c.tick_counts.ensures, c.if-tick_counts.false) (to_z-of_z {w = w64} (record { sfits = c.unit.type_inv }) ∙ c.unit.ensures)
