-- Laws of orders, of an arbitrary weighting, of margin and sum, and of cells.
pub mod Best
pub mod Shortest
pub mod Weightings
pub mod Worths
pub mod Cell
pub mod Least
pub mod Sizes
pub mod Claims
