-- The last line.
use native.Mathlib.Omega.{arith}
use borrow.Author.Rules.{rules}
use mathlib.Core.Path.{◌≡◌}
use mir.Syntax.{w64}
use mir.Val.{to_z, of_z}
use Rattle.text_put.proofs.PutLaws.{puts_then}
use Rattle.watch_text.specs.Shown.{best_text}
use Rattle.watch_text.proofs.Sizes.{best_short}
use Rattle.watch_text.proofs.put_best.Goals as goal

pub returns-in-None : goal.returns-in-None
unfolding best_text
returns-in-None c = rw c.in-None.is (record { put = c.word.ensures; best_bound = omega arith })

pub returns-in-Some : goal.returns-in-Some
unfolding best_text
returns-in-Some c =
    let f = c.in-Some.f in
    let back : to_z w64 (of_z w64 f.score) ≡ f.score = search rules in
    let o = rw back at c.put_row.ensures in
    rw c.in-Some.is (record { put = puts_then c.word-in-Some.ensures o.put; best_bound = best_short _ _ _ o.score_bound })
