-- The buffers for the two files, and what is claimed of all steps of `watch` together.
pub mod Buffers
pub mod Claims
