-- Definitions: answers as a host program written in C is told them.
pub mod Told
