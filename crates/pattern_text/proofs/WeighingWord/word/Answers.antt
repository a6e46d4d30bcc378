-- The words are spelled as the form has them.
use Rattle.pattern_text.specs.Line.{weighing_word}
use Rattle.pattern_text.proofs.WeighingWord.word.Goals as goal

pub returns-in-Margin : goal.returns-in-Margin
unfolding weighing_word
returns-in-Margin c = rw c.in-Margin.is

pub returns-in-Sum : goal.returns-in-Sum
unfolding weighing_word
returns-in-Sum c = rw c.in-Sum.is
