-- Definitions: reading a record's text.
pub mod Line
pub mod Shorter
pub mod Check
pub mod Claims
