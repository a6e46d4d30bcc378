-- Read in this order: an automaton and a view of ticks, walks, runs, clocks held at ceilings, tables, reports, and what
-- is claimed of them.
pub mod Automaton
pub mod Walks
pub mod Runs
pub mod Holding
pub mod Tables
pub mod Reports
pub mod Claims
