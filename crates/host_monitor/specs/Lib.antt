-- Definitions: what opening and feeding hand back to a host in C, and what they leave of what it lent; what is claimed of
-- them, demand 3 included.
pub mod Calls
pub mod Claims
