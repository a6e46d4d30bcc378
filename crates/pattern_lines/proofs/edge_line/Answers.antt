-- An edge's line.
use Rattle.std.proofs.Common.{◌≡◌, refl}
use Rattle.std.proofs.lemmas.Result.{err_from_is_err_and}
use borrow.Author.Tests.{lt-ltb, le-ltb}
use Rattle.pattern.specs.declared.Refusal.TheVariants.{BrokenForm}
use Rattle.pattern_lines.specs.Turn.{edge_judged, edge_turn}
use Rattle.pattern_lines.proofs.edge_line.Goals as goal

pub returns-in_err-line : goal.returns-in_err-line
unfolding edge_turn
returns-in_err-line c =
    let p = err_from_is_err_and c.from_residual.result c.from_residual.ensures.1 in
    let none = c.in_err-line.ensures.ok_part in
    let cause : c.in_err-line.field-0.0 ≡ BrokenForm = cc (rw none at c.in_err-line.ensures.value) in
    let e = rw none at c.read_edge.ensures in
    record { left = rw (p.1, p.2, cause, ← e) refl; pattern = rw (← e) refl }

pub returns-then-p-lt1 : goal.returns-then-p-lt1
unfolding edge_turn edge_judged
returns-then-p-lt1 c =
    let e = rw c.in_ok-line.ensures.ok_part at c.read_edge.ensures in
    let few = lt-ltb c.args.p.now.placecount 1 c.if-p-lt1.true in
    record { left = rw (← e, few) refl; pattern = rw (← e, few) refl }

pub returns-in_err-add_edge : goal.returns-in_err-add_edge
unfolding edge_turn edge_judged
returns-in_err-add_edge c =
    let p = err_from_is_err_and c.from_residual-in_err-add_edge.result c.from_residual-in_err-add_edge.ensures.1 in
    let e = rw c.in_ok-line.ensures.ok_part at c.read_edge.ensures in
    let some = le-ltb c.args.p.now.placecount 1 c.if-p-lt1.false in
    let v = c.in_err-add_edge.ensures.verdict in
    record { left = rw (p.1, p.2, ← e, some, ← v) refl; pattern = rw (← e, some, ← v) c.in_err-add_edge.ensures.put }

pub returns : goal.returns
unfolding edge_turn edge_judged
returns c =
    let e = rw c.in_ok-line.ensures.ok_part at c.read_edge.ensures in
    let some = le-ltb c.args.p.now.placecount 1 c.if-p-lt1.false in
    let v = c.in_ok-add_edge.ensures.verdict in
    record { left = rw (← e, some, ← v) refl; pattern = rw (← e, some, ← v) c.in_ok-add_edge.ensures.put }
