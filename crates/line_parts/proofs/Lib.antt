-- Laws: the parts of a line at the front of a text.
pub mod FirstOf
pub mod Either
pub mod Spaced
