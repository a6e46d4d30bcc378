-- The runs of document 01's pattern; the best of them at each end; all starred values.
pub mod Runs
pub mod Ends
pub mod Best
pub mod Values
