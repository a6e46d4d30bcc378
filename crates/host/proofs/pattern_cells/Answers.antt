-- `pattern_cells` meets its contract: the pattern of an accepted text is sound.
use mathlib.Core.Path.{◌≡◌, refl, ◌∙◌}
use borrow.Author.Rules.{rules}
use Rattle.std.specs.Prelude.{Err, MatchResult}
use Rattle.std.proofs.lemmas.Result.{MatchResult-weaker}
use Rattle.pattern.specs.Cells.{cells_of}
use Rattle.pattern_text.specs.Text.{read_of}
use Rattle.host.proofs.NumberLaws.{count-told}
use Rattle.host.proofs.pattern_cells.Goals as goal

pub returns : goal.returns
returns c =
    let t = c.args.text.now in
    let k : MatchResult c.read.result (λ p. c.and_then.result ≡ cells_of p) (λ e. c.and_then.result ≡ Err e) = MatchResult-weaker c.read.result c.and_then.ensures (λ x h. search rules) (λ e h. h) in
    c.counted_cells.ensures ∙ count-told t (read_of t) refl c.and_then.result (rw c.read.ensures.value at k)
