-- Read in this order: lists and slots, soundness, what is in use, kinds of places, clocks, distances, the refusals'
-- numbers, ceilings and cells.
pub mod Slots
pub mod Sound
pub mod InUse
pub mod Kinds
pub mod Clocks
pub mod Distance
pub mod Refusal
pub mod Cells
