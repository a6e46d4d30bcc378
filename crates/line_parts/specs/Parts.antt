-- The parts of a line, with numbers held so that they fit their types.
use Rattle.std.specs.Prelude.{min}
use Rattle.pattern.specs.declared.Test.{Test}
use Rattle.pattern.specs.declared.Guard.{Guard}
use Rattle.pattern_text.specs.Line.{RawTest, test_of}
use Rattle.text_scan.specs.Scan.{held_integer}

-- an index is held at 255, above every index; a guard's bound at 65,535; a test's bound and high as every integer
abbrev pub held_test : Test → Test
held_test x = record { sign = x.sign; channel = min 255 x.channel; band = x.band; bound = held_integer x.bound; high = held_integer x.high }

abbrev pub held_guard : Guard → Guard
held_guard x = record { sign = x.sign; clock = min 255 x.clock; bound = min 65_535 x.bound }

-- what was read of a test, as a value
abbrev pub held_raw : RawTest → Test
held_raw x = held_test (test_of x)
