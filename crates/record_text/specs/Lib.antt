-- Definitions: the record text.
pub mod Piece
pub mod Text
pub mod Claims
pub mod Example
pub mod Examples
