-- Read in this order: an order and the best by it, an arbitrary weighting, the shortest among equals, margin and sum,
-- and how a worth stands in a cell.
pub mod Order
pub mod Weighting
pub mod Shortest
pub mod Weightings
pub mod Cell
pub mod Claims
