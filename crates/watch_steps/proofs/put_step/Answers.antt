-- By the stage.
use Rattle.watch_steps.proofs.Steps.{heading_put}
use Rattle.watch_steps.proofs.put_step.Goals as goal

pub returns-in-Heading : goal.returns-in-Heading
returns-in-Heading c = heading_put _ _ _ _ c.in-Heading.is c.requires.0 c.put_heading.ensures
