-- What is claimed of reading and writing together.
pub mod Demand
