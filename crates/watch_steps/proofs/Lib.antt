-- Where the program stands in a record's text, and what a step does there.
pub mod Pieces
pub mod Chunks
pub mod Moved
pub mod Steps
