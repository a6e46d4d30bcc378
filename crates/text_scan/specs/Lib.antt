-- Definitions: words and numbers at the front of a text.
pub mod Scan
