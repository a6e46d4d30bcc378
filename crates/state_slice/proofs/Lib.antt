-- Laws: entries that fit, what a slice that holds a state may go by, and what is claimed of it.
pub mod Entries
pub mod Slices
