-- Read in this order: what the best of a record is, then what is claimed; Search is the layer below, of the code.
pub mod Best
pub mod Claims
pub mod Search
