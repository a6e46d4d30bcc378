-- The next cell to visit.
pub mod Spots
