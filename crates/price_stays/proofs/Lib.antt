-- Laws of the ticks ahead and of a stay.
pub mod AheadLaws
pub mod WalkLaws
