-- Laws of whole numbers, so that no later proof argues by signs. Linear turns a fact on ℤ into one that omega reads;
-- the others are laws that later proofs cite by name.
pub mod Tests
pub mod Linear
pub mod Order
pub mod Equal
pub mod Least
pub mod Sums
pub mod Lexicographic
pub mod Ranges
pub mod Casts
