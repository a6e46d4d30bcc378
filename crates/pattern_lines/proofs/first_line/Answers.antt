-- The header's line.
use Rattle.std.proofs.Common.{◌≡◌, refl, sym, ◌∙◌}
use Rattle.std.proofs.lemmas.Result.{err_from_is_err_and}
use Rattle.pattern.specs.declared.Refusal.TheVariants.{BrokenForm}
use Rattle.pattern_lines.specs.Turn.{header_turn}
use Rattle.pattern_lines.proofs.first_line.Goals as goal

pub returns-in_err-header : goal.returns-in_err-header
unfolding header_turn
returns-in_err-header c =
    let p = err_from_is_err_and c.from_residual.result c.from_residual.ensures.1 in
    let none = c.in_err-header.ensures.ok_part in
    let cause : c.in_err-header.field-0.0 ≡ BrokenForm = cc (rw none at c.in_err-header.ensures.value) in
    rw (p.1, p.2, cause, ← rw none at c.read_header.ensures) refl

pub returns-then-not-header_fine : goal.returns-then-not-header_fine
unfolding header_turn
returns-then-not-header_fine c =
    let e = rw c.in_ok-header.ensures.ok_part at c.read_header.ensures in
    rw (← e, sym c.header_fine.ensures ∙ c.if-not-header_fine.true) refl

pub returns : goal.returns
unfolding header_turn
returns c =
    let e = rw c.in_ok-header.ensures.ok_part at c.read_header.ensures in
    rw (← e, sym c.header_fine.ensures ∙ c.if-not-header_fine.false, c.header_alone.ensures) refl
