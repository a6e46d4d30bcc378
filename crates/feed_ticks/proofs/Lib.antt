-- What a loop stores; what the loop over the ticks keeps; what stands in places that are all alike.
pub mod Stores
pub mod ReportLength
pub mod Told
pub mod Repeated
