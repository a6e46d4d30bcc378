-- What the numbers of an edge mean.
pub mod Spans
