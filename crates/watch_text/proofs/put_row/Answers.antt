-- The parts of a line, one after the other.
use native.Mathlib.Omega.{arith}
use borrow.Author.Rules.{rules}
use mathlib.Core.Path.{◌≡◌}
use mir.Syntax.{w64}
use mir.Val.{to_z, of_z}
use Rattle.text_put.proofs.PutLaws.{puts_then}
use Rattle.watch_text.specs.Shown.{row_text}
use Rattle.watch_text.proofs.Sizes.{row-short}
use Rattle.watch_text.proofs.put_row.Goals as goal

pub returns : goal.returns
unfolding row_text
returns c =
    let a = c.args in
    let back : to_z w64 (of_z w64 a.score) ≡ a.score = search rules in
    record {
      put =
          puts_then (puts_then (rw c.from.ensures at c.number.ensures) c.byte.ensures)
          (puts_then (puts_then (rw c.from-2.ensures at c.number-2.ensures) c.byte-2.ensures)
          (puts_then (rw back at c.integer.ensures) c.byte-3.ensures));
      score_bound = row-short a.end a.begin a.score (omega arith) (omega arith) c.ranges.score;
    }
