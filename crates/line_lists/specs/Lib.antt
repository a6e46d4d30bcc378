-- Definitions: the lists of a line.
pub mod Lists
pub mod ResetList
pub mod Shorter
