-- Definitions: the parts of a line, held.
pub mod Parts
