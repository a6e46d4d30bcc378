-- Laws: what is left of a text.
pub mod Left
