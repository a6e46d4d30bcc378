-- Why the choice among the reports is the best over all ends; why the code finds it; what is answered.
pub mod Ends
pub mod Choices
pub mod Pieces
pub mod Chunk
pub mod Turn
pub mod Reports
pub mod Still
pub mod Whole
pub mod Left
pub mod Answer
