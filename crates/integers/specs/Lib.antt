-- Definitions on whole numbers that the kit lacks.
pub mod Least
pub mod Equal
