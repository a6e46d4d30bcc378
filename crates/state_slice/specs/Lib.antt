-- Definitions: the state that a slice holds; claims: what is written is read back.
pub mod Slice
pub mod Claims
