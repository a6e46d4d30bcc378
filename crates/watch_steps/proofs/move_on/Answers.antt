-- The next piece, or the present one.
use native.Mathlib.Omega.{arith}
use mathlib.Core.Path.{ap}
use borrow.Author.Tests.{ne_eqb, lt-ltb, le-ltb}
use lib.ListN.{length}
use Rattle.watch_steps.specs.Steps.{cursor_at, moved_on}
use Rattle.watch_steps.proofs.move_on.Goals as goal
use Rattle.watch_steps.proofs.move_on.Goals.{else-k-eq0-via-then-k-eq0+else-k-text, else-k-eq0-via-else-k-eq0}

pub returns-then-k-text : goal.returns-then-k-text
unfolding moved_on
returns-then-k-text c =
    let a = c.args in
    rw (c.if-k-eq0.true, lt-ltb a.k.at (length a.text.now) c.if-k-text.true) (ap cursor_at c.piece_at-duration.ensures)

pub returns-else-k-eq0 : goal.returns-else-k-eq0
unfolding moved_on
returns-else-k-eq0 c =
    let a = c.args in
    elim c.else-k-eq0.branch [
      | else-k-eq0-via-then-k-eq0+else-k-text w ↦ rw (w.if-k-eq0.true, le-ltb a.k.at (length a.text.now) (omega arith))
      | else-k-eq0-via-else-k-eq0 w ↦ rw (ne_eqb a.k.left 0 w.if-k-eq0.false)
    ]
