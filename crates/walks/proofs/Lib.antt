-- Proofs of the claims: what tests say; states, moves and offers; tables; gains, runs and walks; held clocks; reports;
-- rows, cutting and standing still; the order of offers; what is kept.
pub mod Tests
pub mod States
pub mod Moves
pub mod Offers
pub mod TableBest
pub mod Gains
pub mod Rest
pub mod WalkToRun
pub mod RunToWalk
pub mod Held
pub mod RunsAreWalks
pub mod Entries
pub mod ReportsBest
pub mod Rows
pub mod Cut
pub mod Still
pub mod AnyOrder
pub mod Kept
