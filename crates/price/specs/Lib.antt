-- Price is the operation. Whole is about the code alone.
pub mod Price
pub mod Whole
