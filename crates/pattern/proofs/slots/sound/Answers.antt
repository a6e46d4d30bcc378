-- The count fits and the first pass, and then the others do.
-- A call of a closure leaves it as it was, so each answer is `p`'s or `q`'s.
use Rattle.std.proofs.Common.{◌≡◌, ◌∙◌, ◌&&◌, length, take, drop, leb, arith, refl, ◌-◌}
use lib.ListN.{length-drop}
use lib.Seq.{take_all}
use borrow.Author.Tests.{eq-eqb, le-leb, lt-leb}
use Rattle.std.proofs.lemmas.Iterator.{YieldsList-from_slice}
use Rattle.std.proofs.lemmas.Iterator.Adapters.{serves_from_places}
use Rattle.std.proofs.lemmas.Iterator.Search.{all_from_yields_List}
use Rattle.pattern.specs.Slots.{all, slots}
use Rattle.pattern.proofs.slots.sound.Goals as goal
use Rattle.pattern.proofs.slots.sound.Goals.{then-n-xs, else-n-xs, then-all, else-all}

pub all-requires-clause-callable : goal.all-requires-clause-callable
all-requires-clause-callable g c =
    serves_from_places (YieldsList-from_slice _ c.iter.ensures.rest)
    (λ x f k. g.met.U.Fn.1.step_stays c.args.used (x, tt) _ f (record { met = k.met }))
    (λ x k l e. c.requires.used.at (x, tt))

pub all-requires-then-all-clause-callable : goal.all-requires-then-all-clause-callable
all-requires-then-all-clause-callable g c =
    serves_from_places (YieldsList-from_slice _ c.iter-then-all.ensures.rest)
    (λ x f k. g.met.N.Fn.1.step_stays c.args.unused (x, tt) _ f (record { met = k.met }))
    (λ x k l e. c.requires.unused.at (x, tt))

pub returns : goal.returns
unfolding slots
returns g c = λ p q h k.
    let xs = c.args.xs.now in
    let n = c.args.count in
    let first : c.if-n-xs.value ≡ leb n (length xs) && all p (take n xs) =
    elim c.if-n-xs.branch [
      | then-n-xs w ↦
          let road = YieldsList-from_slice _ w.iter.ensures.rest in
          let each =
          all_from_yields_List p _ _ w.all.result w.all.ensures.ran road (λ x b f s. (
            g.met.U.Fn.1.step_stays c.args.used (x, tt) b f (record { met = s.met }),
            h x.now b (record {
              shown = x;
              shows = refl;
              says = record { met = (g.met.U.FnMut.1.post_iff c.args.used (x, tt) b).1 (f, record { met = s.met }) };
            }),
          ))
          in
          rw (le-leb n (length xs) (omega arith), ← c.from-n.ensures) (w.value-is ∙ each)
      | else-n-xs w ↦ rw (lt-leb n (length xs) (omega arith)) (w.value-is ∙ lt-leb _ _ w.if-n-xs.false)
    ] in
    rw (eq-eqb (length xs) (length xs) refl, ← first, ← c.from-n.ensures)
    (elim c.if-all.branch [
      | then-all w ↦
          let road = YieldsList-from_slice _ w.iter-then-all.ensures.rest in
          let each =
          all_from_yields_List q _ _ w.all-then-all.result w.all-then-all.ensures.ran road (λ x b f s. (
            g.met.N.Fn.1.step_stays c.args.unused (x, tt) b f (record { met = s.met }),
            k x.now b (record {
              shown = x;
              shows = refl;
              says = record { met = (g.met.N.FnMut.1.post_iff c.args.unused (x, tt) b).1 (f, record { met = s.met }) };
            }),
          ))
          in
          let rest = drop c.from-n.result xs in
          let whole = take_all (length xs - c.from-n.result) rest (omega (arith, length-drop c.from-n.result xs)) in
          rw (w.if-all.true, w.result-is, each, whole)
      | else-all w ↦ rw w.if-all.false (w.result-is ∙ w.if-all.false)
    ])
