-- The words are spelled as the form has them.
use Rattle.pattern_text.specs.Line.{kind_word}
use Rattle.pattern_text.proofs.KindWord.word.Goals as goal

pub returns-in-Start : goal.returns-in-Start
unfolding kind_word
returns-in-Start c = rw c.in-Start.is

pub returns-in-Plain : goal.returns-in-Plain
unfolding kind_word
returns-in-Plain c = rw c.in-Plain.is

pub returns-in-End : goal.returns-in-End
unfolding kind_word
returns-in-End c = rw c.in-End.is

pub returns-in-Both : goal.returns-in-Both
unfolding kind_word
returns-in-Both c = rw c.in-Both.is
