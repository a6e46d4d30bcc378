-- Read in this order: document 01's record, the starred values.
pub mod Example
pub mod Starred
