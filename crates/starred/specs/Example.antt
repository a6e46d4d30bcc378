-- Document 01's record as `price` and `best` take it, and its ticks. The pattern and the record stand, with their texts, in
-- `pattern_text/specs` and `record_text/specs` Example.
use Rattle.std.specs.Prelude.{ℕ, List, ℤ}
use Rattle.record.specs.Record.{Book, book_of}
use Rattle.record_text.specs.Text.{durations_of, values_of}
use Rattle.record_text.specs.Example as record-text

abbrev pub durations : List ℕ
durations = durations_of record-text.example

abbrev pub values : List ℤ
values = values_of record-text.example

abbrev pub book : Book
book = book_of 1 durations values
