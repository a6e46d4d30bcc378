use Rattle.watch_text.specs.Shown.{heading}
use Rattle.watch_text.proofs.put_heading.Goals as goal

pub returns : goal.returns
unfolding heading
returns c = c.word.ensures
