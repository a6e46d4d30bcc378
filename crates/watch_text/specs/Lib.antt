-- What `watch` shows, and what is claimed of it.
pub mod Shown
pub mod Claims
