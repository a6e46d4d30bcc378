-- Read in this order: what a tick leaves in a table, what a report says, both over what never changes in a call, and what
-- the functions ask of edges and of a table.
pub mod Moves
pub mod Reports
pub mod Edges
pub mod Calls
pub mod Asks
