-- A place's line, or an edge's.
use Rattle.std.proofs.Common.{◌≡◌, refl, eq-eqb, rules, None}
use borrow.Author.Tests.{ne_eqb}
use Rattle.std.proofs.lemmas.Result.{err_from_is_err_and}
use Rattle.pattern_lines.specs.Turn.{place_judged, place_turn, edge_turn, line_turn}
use Rattle.pattern_lines.proofs.further_line.Goals as goal
use Rattle.pattern_lines.proofs.further_line.Goals.{else-p-eq0-via-then-p-eq0+in-None-1, else-p-eq0-via-else-p-eq0}

pub returns-in_err-add_place : goal.returns-in_err-add_place
unfolding line_turn place_turn place_judged
returns-in_err-add_place c =
    let p = err_from_is_err_and c.from_residual.result c.from_residual.ensures.1 in
    let first = eq-eqb c.args.p.now.edgecount 0 c.if-p-eq0.true in
    let e = c.in-Some.ensures in
    let v = c.in_err-add_place.ensures.verdict in
    record { left = rw (p.1, p.2, first, ← e, ← v) refl; pattern = rw (first, ← e, ← v) c.in_err-add_place.ensures.put }

pub returns : goal.returns
unfolding line_turn place_turn place_judged
returns c =
    let first = eq-eqb c.args.p.now.edgecount 0 c.if-p-eq0.true in
    let e = c.in-Some.ensures in
    let v = c.in_ok-add_place.ensures.verdict in
    record { left = rw (first, ← e, ← v) refl; pattern = rw (first, ← e, ← v) c.in_ok-add_place.ensures.put }

pub returns-2 : goal.returns-2
unfolding line_turn place_turn
returns-2 c =
    let p = c.args.p.now in
    let edges : line_turn p c.args.text.now ≡ edge_turn p c.args.text.now = elim c.else-p-eq0.branch [
      | else-p-eq0-via-then-p-eq0+in-None-1 w ↦
          let none : w.read_place.result ≡ None = search rules in
          rw (eq-eqb p.edgecount 0 w.if-p-eq0.true, ← w.read_place.ensures, none) refl
      | else-p-eq0-via-else-p-eq0 w ↦ rw (ne_eqb p.edgecount 0 w.if-p-eq0.false) refl
    ] in
    rw edges c.edge_line.ensures
