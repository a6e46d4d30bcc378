-- Laws: the record text.
pub mod LineLaws
pub mod Theorems
