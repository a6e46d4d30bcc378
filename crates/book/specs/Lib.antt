-- Read in this order: runs on a book, a pattern's automaton and its ceilings, what a tick of a book adds to a worth, unfinished
-- runs, what is claimed.
pub mod PricedRun
pub mod Automaton
pub mod View
pub mod Unfinished
pub mod Claims
