use Rattle.pattern.specs.Kinds.{is_start, is_end}
use Rattle.feed_ticks.proofs.kind_flags.Goals as goal

pub returns-then-ending : goal.returns-then-ending
returns-then-ending c = rw (c.if-ending.true) (c.flags_by.ensures is_end (λ k r h. h.1))

pub returns-else-ending : goal.returns-else-ending
returns-else-ending c = rw (c.if-ending.false) (c.flags_by-else-ending.ensures is_start (λ k r h. h.1))
