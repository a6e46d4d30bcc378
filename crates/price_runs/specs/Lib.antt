-- About the code alone.
pub mod Stand
pub mod Within
