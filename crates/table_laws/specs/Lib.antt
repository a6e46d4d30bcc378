-- Read in this order: what is offered to a cell in one tick, a table in the terms of the crate walks, what is claimed, and
-- the same for a pattern's table.
pub mod Offers
pub mod Meaning
pub mod Claims
pub mod Patterns
