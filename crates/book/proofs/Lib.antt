-- Members and tests; ceilings; what a stay gains; runs, finished and not.
pub mod Members
pub mod Ceilings
pub mod StayGains
pub mod Runs
pub mod Unfinished
