-- Laws: reading a record's text.
pub mod Numbers
pub mod ValuesLaws
pub mod LineLaws
pub mod Walking
pub mod Theorems
