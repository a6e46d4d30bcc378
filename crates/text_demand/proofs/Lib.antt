-- Demand 2 of pattern texts.
pub mod Demand
