-- The program's buffers for its two files.
use Rattle.std.specs.Prelude.{ℕ, ◌+◌}

-- Of each file the program reads as many bytes as a buffer takes: one byte more than a text may have shows that it is too long
-- ("over 8,192 bytes", `pattern_text/specs/Text` readOf; "over 16,384 bytes", `record_text/specs/Text` recordRefusal).
abbrev pub pattern_buffer : ℕ
pattern_buffer = 1 + 8_192

abbrev pub record_buffer : ℕ
record_buffer = 1 + 16_384
