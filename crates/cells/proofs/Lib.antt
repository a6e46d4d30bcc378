-- Laws of clocks in a block, of blocks in a table, and of layouts.
pub mod Digits
pub mod Blocks
pub mod Layouts
