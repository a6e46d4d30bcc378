-- Each cell after a tick holds the best of what was offered to it, which is what the walks' table holds; a report is the
-- walks' report; and a sound pattern's table is one that these laws speak of.
pub mod Best
pub mod Rows
pub mod States
pub mod Tick
pub mod Report
pub mod Patterns
