-- Lemmas behind the checks: how a mark is told, what a look at cells finds, how flags are found with it, and what a count of
-- cells says.
pub mod Marks
pub mod Looks
pub mod Flagging
pub mod Counts
