-- One place more: there is room for it.
use Rattle.std.proofs.Common.{arith, refl}
use borrow.Author.Tests.{lt-ltb}
use Rattle.pattern_lines.specs.Turn.{put_place}
use Rattle.pattern_lines.proofs.Judgement.{place_room}
use Rattle.pattern_lines.proofs.add_place.Goals as goal

pub bounds-p-from : goal.bounds-p-from
bounds-p-from c = rw c.from.ensures (place_room _ _ c.in_ok-place_verdict.ensures)

pub overflow_add-p : goal.overflow_add-p
overflow_add-p c = let k = place_room _ _ c.in_ok-place_verdict.ensures in omega arith

pub returns-clause-put : goal.returns-clause-put
unfolding put_place
returns-clause-put c =
    let k = place_room _ _ c.in_ok-place_verdict.ensures in
    rw (c.from.ensures, c.place_of.ensures, lt-ltb c.args.p.now.placecount 16 k) refl
