-- Laws: reading a pattern.
pub mod HeldLines
pub mod Cutting
pub mod Filling
pub mod Walking
pub mod Numbers
