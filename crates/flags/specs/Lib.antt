-- The flags of a table's blocks.
pub mod Flags
