-- Definitions: reading a pattern.
pub mod Reading
