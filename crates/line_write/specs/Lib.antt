pub mod Lines
pub mod Resets
