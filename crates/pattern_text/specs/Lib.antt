-- Definitions: the pattern text.
pub mod Bytes
pub mod Numeral
pub mod Form
pub mod Line
pub mod Fault
pub mod Text
pub mod Claims
pub mod Signed
pub mod Example
pub mod Examples
