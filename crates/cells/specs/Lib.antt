-- Read in this order: how a table is laid out, then where a cell stands and which clocks it has.
pub mod Shape
pub mod Laid
pub mod Layout
pub mod Index
