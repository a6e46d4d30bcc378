-- Read in this order: a table's cells and what they hold; a tick over them and its report; the state; opening; feeding;
-- long pieces; demand 3; what the tables hold between calls; what feeding makes of any lent table.
pub mod Cells
pub mod Tick
pub mod State
pub mod Open
pub mod Feed
pub mod Still
pub mod Demand
pub mod Between
pub mod Lent
