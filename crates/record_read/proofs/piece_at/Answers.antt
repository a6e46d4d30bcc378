-- `piece_at` meets its contract.
use Rattle.std.proofs.Common.{◌≡◌, ◌-◌, length, drop, ap, ap₂, ◌∙◌, rules}
use lib.IntN.{pos}
use Rattle.record_read.specs.Line.{no_value}
use Rattle.record_read.proofs.LineLaws.{piece_none, piece_is}
use Rattle.record_read.proofs.piece_at.Goals as goal

pub returns-in_default : goal.returns-in_default
returns-in_default c =
    let left : c.left.result.now ≡ drop c.args.at c.args.text.now = c.left.ensures ∙ ap₂ drop c.new-r.ensures.1 (ap (λ x. x.now) c.new-r.ensures.0) in
    piece_none _ _ (rw left at c.in_default.ensures)

pub returns : goal.returns
returns c =
    let left : c.left.result.now ≡ drop c.args.at c.args.text.now = c.left.ensures ∙ ap₂ drop c.new-r.ensures.1 (ap (λ x. x.now) c.new-r.ensures.0) in
    let m = c.map.ensures.items in
    piece_is _ _ c.in-Some.line _ (rw left at c.in-Some.ensures) c.map.result m.long
    (λ i h. let k = m.at i no_value (pos 0) h in search rules) _ (c.moved_to.ensures.1 ∙ ap (λ x. length x.now - length c.in-Some.rest.now) c.new-r.ensures.0)
