-- Laws: what a host program written in C is told.
pub mod NumberLaws
pub mod Readings
pub mod Claims
