-- `record_sound` is the record's rules.
use borrow.Author.Tests.{le-leb, lt-leb}
use Rattle.record.specs.Record.{record_sound}
use Rattle.record.proofs.rules.record_sound.Goals as goal

pub returns-then-durations-le4096 : goal.returns-then-durations-le4096
unfolding record_sound
returns-then-durations-le4096 c = rw (c.from.ensures, le-leb _ _ c.if-durations-le4096.true, c.all_last.ensures, c.ticks.ensures, c.all_in_range.ensures)

pub returns-else-durations-le4096 : goal.returns-else-durations-le4096
unfolding record_sound
returns-else-durations-le4096 c = rw (lt-leb _ _ c.if-durations-le4096.false)
