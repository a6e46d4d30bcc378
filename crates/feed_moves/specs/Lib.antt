-- Definitions: the ticks of a piece, for the code.
pub mod Piece
