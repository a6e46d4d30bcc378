-- The number of each refusal (document 01, 'Operations and refusals').
use Rattle.std.specs.Prelude.{ℕ}
use Rattle.pattern.specs.declared.Refusal.{Refusal}
use Rattle.pattern.specs.declared.Refusal.TheVariants.{TextTooLong, BrokenForm, OutOfRange, TooMany, UnknownIndex, OutputTooShort, UnsoundPattern, BrokenRecord, BrokenSteps, NotARun, TableTooShort, BrokenState, TooManyTicks, BrokenCell}

abbrev pub number_of : Refusal → ℕ
-- read a pattern: over 8,192 bytes; the form is broken; a number outside its range; a place, edge, test or guard too many; an
-- index that the pattern lacks, or a reset not above the one before it. Of a record's text: over 16,384 bytes; the form is broken
number_of TextTooLong = 1
number_of BrokenForm = 2
number_of OutOfRange = 3
number_of TooMany = 4
number_of UnknownIndex = 5
-- write, feed: output or a report slice too short; any operation on a pattern value: it is unsound
number_of OutputTooShort = 6
number_of UnsoundPattern = 7
-- a record or a piece breaks its rules, or lent slices disagree in length
number_of BrokenRecord = 8
-- price: edge list and stay list differ in length, are empty or over 4,095, or begin is not inside the record
number_of BrokenSteps = 9
-- price: not a run, or past the record's end
number_of NotARun = 10
-- open, feed, best of a record: a table shorter than the cells needed
number_of TableTooShort = 11
-- feed: a broken state (a host in C gets 12 also for a state slice that is too short, in opening, too); too many ticks in all; a
-- needed cell that holds no worth in range
number_of BrokenState = 12
number_of TooManyTicks = 13
number_of BrokenCell = 14
