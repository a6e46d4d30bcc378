-- Read in this order: a record's rules and its book of ticks; joining; steps and runs; what a run is worth; what is proved
-- of it; what is proved of a stay's observations; what joining by whole samples has in common with them.
pub mod Record
pub mod Joined
pub mod Run
pub mod Worth
pub mod Claims
pub mod Observed
pub mod AsBefore
