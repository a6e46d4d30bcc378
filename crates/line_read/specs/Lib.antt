-- Definitions: the lines of a pattern text, held.
pub mod Lines
