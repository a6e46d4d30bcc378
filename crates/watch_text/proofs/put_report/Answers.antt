-- A line, or none.
use native.Mathlib.Omega.{arith}
use borrow.Author.Rules.{rules}
use mathlib.Core.Path.{◌≡◌}
use mathlib.Core.Bool.{true, false}
use lib.Dec.{eqb}
use mir.Syntax.{w64}
use mir.Val.{to_z, of_z}
use Rattle.text_put.proofs.PutLaws.{puts_none}
use Rattle.watch_text.specs.Shown.{row_for}
use Rattle.watch_text.proofs.put_report.Goals as goal

pub returns-then-has_run : goal.returns-then-has_run
unfolding row_for
returns-then-has_run c =
    let a = c.args in
    let back : to_z w64 (of_z w64 a.score) ≡ a.score = search rules in
    let e : eqb a.length 0 ≡ false = search rules in
    let o = rw back at c.put_row.ensures in
    rw e (record { put = o.put; length_bound = o.score_bound })

pub returns-else-has_run : goal.returns-else-has_run
unfolding row_for
returns-else-has_run c =
    let e : eqb c.args.length 0 ≡ true = search rules in
    rw e (record { put = puts_none _; length_bound = omega arith })
