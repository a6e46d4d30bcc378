-- Laws of the lines: how long they are, how they follow one another, and why each is right.
pub mod Sizes
pub mod Rows
pub mod Right
