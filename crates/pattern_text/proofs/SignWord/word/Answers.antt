-- The words are spelled as the form has them.
use Rattle.pattern_text.specs.Line.{sign_word}
use Rattle.pattern_text.proofs.SignWord.word.Goals as goal

pub returns-in-Less : goal.returns-in-Less
unfolding sign_word
returns-in-Less c = rw c.in-Less.is

pub returns-in-AtMost : goal.returns-in-AtMost
unfolding sign_word
returns-in-AtMost c = rw c.in-AtMost.is

pub returns-in-More : goal.returns-in-More
unfolding sign_word
returns-in-More c = rw c.in-More.is

pub returns-in-AtLeast : goal.returns-in-AtLeast
unfolding sign_word
returns-in-AtLeast c = rw c.in-AtLeast.is
