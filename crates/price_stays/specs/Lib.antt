-- About the code alone.
pub mod Walk
pub mod Within
