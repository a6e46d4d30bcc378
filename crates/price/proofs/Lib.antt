-- Laws of a whole run, which pricing rests on; answers in numbers; how large scores come.
pub mod WholeLaws
pub mod Numbers
pub mod Scores
