-- Numbers in a row; the cells of a table; how large worths come; what is written is held; long pieces; what an accepted call
-- may go by, and its reports; any lent table; the ticks of a piece in a book; what holds between calls; answers in numbers;
-- demand 3; what the state and the cells hold.
pub mod Numbers
pub mod CellLaws
pub mod Sizes
pub mod Written
pub mod Still
pub mod Accepted
pub mod Reports
pub mod Lent
pub mod PieceViews
pub mod Between
pub mod Answers
pub mod Demand
pub mod CellsHold
