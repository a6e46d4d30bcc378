-- Laws: the pattern text.
pub mod Tools
pub mod NumeralLaws
pub mod FormLaws
pub mod LineLaws
pub mod Cut
pub mod Runs
pub mod Slots
pub mod Resets
pub mod Value
pub mod Size
pub mod Answers
pub mod Stops
pub mod Theorems
pub mod Signed
pub mod ForCode
