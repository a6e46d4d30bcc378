-- Laws: the lists of a line.
pub mod Gather
pub mod Held
pub mod PartsLaws
pub mod ResetsLaws
