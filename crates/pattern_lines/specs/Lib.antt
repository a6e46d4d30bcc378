-- Definitions: the lines of a pattern text, one by one.
pub mod Turn
