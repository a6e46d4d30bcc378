-- `check_lines` walks with one reader from line to line; some lines are walked over, and the reader has the others left.
use Rattle.std.proofs.Common.{◌≡◌, ◌<◌, length, drop, sym, ◌∙◌, arith}
use mathlib.Core.List.{[]}
use Rattle.std.proofs.lemmas.Result.{err_from_is_err_and}
use Rattle.pattern.specs.declared.Refusal.TheVariants.{BrokenForm}
use lib.ListN.{length-drop, drop_of_length-le}
use borrow.Author.Tests.{ltb-true, ltb-false}
use Rattle.record_read.proofs.Walking.{start-stands, turn_on, form_broken, finish-on, line_left, line_within, line_further}
use Rattle.record_read.proofs.check_lines.Goals as goal

pub loop-r-init : goal.loop-r-init
loop-r-init c = rw (c.new-r.ensures.0, c.new-r.ensures.1) (start-stands c.args.channels c.args.text.now)

pub returns-in_err-line : goal.returns-in_err-line
returns-in_err-line c =
    let r = c.loop-r.r in
    let p = err_from_is_err_and c.from_residual.result c.from_residual.ensures.1 in
    let none = c.in_err-line.ensures.ok_part in
    let cause : c.in_err-line.field-0.0 ≡ BrokenForm = cc (rw none at c.in_err-line.ensures.value) in
    let more : r.at < length r.text.now = ltb-true _ _ (sym c.unread.ensures ∙ c.loop-r-test.true) in
    rw (p.1, p.2, cause, form_broken c.args.channels c.args.text.now (drop r.at r.text.now) c.loop-r.s c.loop-r.invariant (omega (arith, length-drop r.at r.text.now)) (rw (c.left.ensures, none) at c.read_line.ensures))

pub loop-r-smaller : goal.loop-r-smaller
loop-r-smaller c =
    let r = c.loop-r.r in
    let e = rw (c.left.ensures, c.in_ok-line.ensures.ok_part) at c.read_line.ensures in
    let within = line_within r.text.now r.at c.in_ok-line.line c.in_ok-line.rest.now e in
    let further = line_further r.text.now r.at c.in_ok-line.line c.in_ok-line.rest.now e in
    let next = c.moved_to-r.ensures.1 in
    rw (c.moved_to-r.ensures.0, next) (omega arith)

pub loop-r-preserved : goal.loop-r-preserved
loop-r-preserved c =
    let r = c.loop-r.r in
    let e = rw (c.left.ensures, c.in_ok-line.ensures.ok_part) at c.read_line.ensures in
    rw (c.moved_to-r.ensures.0, c.moved_to-r.ensures.1, line_left r.text.now r.at c.in_ok-line.line c.in_ok-line.rest.now e, c.with-s.ensures)
    (turn_on c.args.channels c.args.text.now (drop r.at r.text.now) c.loop-r.s (omega (arith, c.ranges.channels)) c.loop-r.invariant c.in_ok-line.line c.in_ok-line.rest.now e)

pub returns-then-kept : goal.returns-then-kept
returns-then-kept c =
    let r = c.loop-r.r in
    let end : drop r.at r.text.now ≡ [] = drop_of_length-le r.text.now {i = r.at} (ltb-false _ _ (sym c.unread.ensures ∙ c.loop-r-test.false)) in
    rw c.if-kept.true at (finish-on c.args.channels c.args.text.now (drop r.at r.text.now) c.loop-r.s c.requires end c.loop-r.invariant)

pub returns-else-kept : goal.returns-else-kept
returns-else-kept c =
    let r = c.loop-r.r in
    let end : drop r.at r.text.now ≡ [] = drop_of_length-le r.text.now {i = r.at} (ltb-false _ _ (sym c.unread.ensures ∙ c.loop-r-test.false)) in
    rw c.if-kept.false at (finish-on c.args.channels c.args.text.now (drop r.at r.text.now) c.loop-r.s c.requires end c.loop-r.invariant)
