-- Laws of the two calls; the claims; demand 3 of them.
pub mod CallLaws
pub mod Claims
pub mod Demand
