-- Laws: words and numbers at the front of a text.
pub mod Words
pub mod Digits
pub mod Answered
pub mod Integers
pub mod Shorter
