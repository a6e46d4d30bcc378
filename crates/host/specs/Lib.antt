-- Definitions: what a host program written in C is told, and what is left of what it lent; what is claimed of it.
pub mod Numbers
pub mod Answers
pub mod Claims
