-- `score` hands the part of the record from the begin's piece on.
use native.Mathlib.Omega.{arith}
use mathlib.Core.Path.{◌≡◌, sym, ap, ◌∙◌}
use Prim.Native.Nat.{ℕ, ◌*◌, ◌≤◌, ◌<◌}
use mathlib.Core.List.{List}
use mathlib.Core.Bool.{true}
use lib.IntN.{ℤ}
use Rattle.std.proofs.lemmas.Result.{err_from_is_err_and}
use Rattle.pattern.specs.declared.Refusal.TheVariants.{NotARun}
use Rattle.record.specs.Record.{record_sound}
use lib.ListN.{length}
use Rattle.price_runs.specs.Stand.{outcome}
use Rattle.price.specs.Price.{scored}
use Rattle.record.proofs.RecordLaws.{parts, sample-within}
use Rattle.price.proofs.WholeLaws.{steps, rest_of, started, kept-at-begin, held-at-begin, outcome-at-begin}
use Rattle.price.proofs.score.Goals as goal

-- the begin's piece has its values in the slice
values-within : (n : ℕ) (ds : List ℕ) (vs : List ℤ) (i : ℕ) → record_sound n ds vs ≡ true → i < length ds → i * n ≤ length vs
values-within n ds vs i h l = let e = (parts n ds vs h).agree in omega (arith, sample-within i (length ds) n l)

pub find-found-requires : goal.find-found-requires
find-found-requires c = (steps c.args.course.now.lent.durations.now c.args.begin c.args.edges.now c.args.stays.now c.requires).within

pub overflow_mul-at : goal.overflow_mul-at
overflow_mul-at c = rw c.from.ensures (omega (arith, values-within c.args.course.now.pattern.channels c.args.course.now.lent.durations.now c.args.course.now.lent.values.now c.find-found.result.piece c.args.course.now.kept c.find-found.ensures.inside))

pub ticks-requires : goal.ticks-requires
ticks-requires c = (parts c.args.course.now.pattern.channels c.args.course.now.lent.durations.now c.args.course.now.lent.values.now c.args.course.now.kept).few

pub overflow_cast-left : goal.overflow_cast-left
overflow_cast-left c = let e = (parts c.args.course.now.pattern.channels c.args.course.now.lent.durations.now c.args.course.now.lent.values.now c.args.course.now.kept).short in let k = c.ticks.ensures in omega arith

pub overflow_sub-left : goal.overflow_sub-left
overflow_sub-left c = let e = (steps c.args.course.now.lent.durations.now c.args.begin c.args.edges.now c.args.stays.now c.requires).within in let k = c.ticks.ensures in omega arith

pub bounds-edges-0 : goal.bounds-edges-0
bounds-edges-0 c = let e = (steps c.args.course.now.lent.durations.now c.args.begin c.args.edges.now c.args.stays.now c.requires).some_step in omega arith

pub offset_bounds-values-at : goal.offset_bounds-values-at
offset_bounds-values-at c = rw c.from.ensures (omega (arith, values-within c.args.course.now.pattern.channels c.args.course.now.lent.durations.now c.args.course.now.lent.values.now c.find-found.result.piece c.args.course.now.kept c.find-found.ensures.inside))

pub slice_bounds-lent-count-2 : goal.slice_bounds-lent-count-2
slice_bounds-lent-count-2 c = rw c.from.ensures (values-within c.args.course.now.pattern.channels c.args.course.now.lent.durations.now c.args.course.now.lent.values.now c.find-found.result.piece c.args.course.now.kept c.find-found.ensures.inside)

pub slice_bounds-lent-start-2 : goal.slice_bounds-lent-start-2
slice_bounds-lent-start-2 c = rw c.from.ensures (omega (arith, values-within c.args.course.now.pattern.channels c.args.course.now.lent.durations.now c.args.course.now.lent.values.now c.find-found.result.piece c.args.course.now.kept c.find-found.ensures.inside))

pub returns-in_err-s : goal.returns-in_err-s
unfolding outcome
returns-in_err-s c =
    let a = c.args in
    let f = c.find-found in
    let p = err_from_is_err_and c.from_residual.result c.from_residual.ensures.1 in
    let none = c.in_err-s.ensures.ok_part in
    let cause : c.in_err-s.field-0.0 ≡ NotARun = cc (rw none at c.in_err-s.ensures.value) in
    rw (p.1, p.2, cause, ← outcome-at-begin a.course.now.pattern a.course.now.lent.durations.now a.course.now.lent.values.now a.begin a.edges.now a.stays.now a.course.now.kept c.requires f.result f.ensures, ← c.ticks.ensures, ← c.start.ensures, none)

pub invariant_of-score_from : goal.invariant_of-score_from
invariant_of-score_from c =
    let a = c.args in
    let f = c.find-found in
    record {
      sound = a.course.now.sound;
      kept =
          rw (c.from.ensures, rest_of f.result.piece a.course.now.lent.durations.now, rest_of (f.result.piece * a.course.now.pattern.channels) a.course.now.lent.values.now)
          (kept-at-begin a.course.now.pattern a.course.now.lent.durations.now a.course.now.lent.values.now a.begin a.edges.now a.stays.now a.course.now.kept c.requires f.result f.ensures);
    }

pub score_from-requires : goal.score_from-requires
score_from-requires c =
    let a = c.args in
    let f = c.find-found in
    let placed = started _ _ _ (sym c.start.ensures ∙ c.in_ok-s.ensures.ok_part) in
    rw (c.from.ensures, rest_of f.result.piece a.course.now.lent.durations.now, rest_of (f.result.piece * a.course.now.pattern.channels) a.course.now.lent.values.now, placed, c.ticks.ensures)
    (held-at-begin a.course.now.pattern a.course.now.lent.durations.now a.course.now.lent.values.now a.begin a.edges.now a.stays.now a.course.now.kept c.requires f.result f.ensures)

pub returns : goal.returns
returns c =
    let a = c.args in
    let f = c.find-found in
    let ran = rw (c.from.ensures, rest_of f.result.piece a.course.now.lent.durations.now, rest_of (f.result.piece * a.course.now.pattern.channels) a.course.now.lent.values.now, ← c.in_ok-s.ensures.ok_part, c.start.ensures, c.ticks.ensures) at c.score_from.ensures in
    ran ∙ ap scored (outcome-at-begin a.course.now.pattern a.course.now.lent.durations.now a.course.now.lent.values.now a.begin a.edges.now a.stays.now a.course.now.kept c.requires f.result f.ensures)
