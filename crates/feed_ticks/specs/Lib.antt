-- The ticks of a piece, loop by loop: the flags of places, the view of a tick in the code's form, tables and reports tick by
-- tick.
pub mod Ticks
