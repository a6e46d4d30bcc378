-- `price` is the operation: the refusals in their order, else the score.
use mathlib.Core.Path.{◌≡◌, sym, ap, ◌∙◌}
use Rattle.pattern.specs.declared.Refusal.TheVariants.{BrokenRecord, BrokenSteps}
use Rattle.std.specs.Prelude.{Result, Err, ℤ}
use Rattle.pattern.specs.declared.Refusal.{Refusal}
use Rattle.price.specs.Price.{priced_of, priced_as}
use Rattle.price.proofs.Numbers.{priced_numbers_lem}
use Rattle.record.proofs.RecordLaws.{parts}
use Rattle.std.proofs.lemmas.Result.{err_from_is_err_and}
use Rattle.pattern.proofs.Judged.{accepted, refused}
use Rattle.price.proofs.price.Goals as goal

pub returns-in_err-sound : goal.returns-in_err-sound
unfolding priced_of
returns-in_err-sound c =
    let a = c.args in
    let r = refused a.p _ c.in_err-sound.ensures in
    let f = err_from_is_err_and c.from_residual.result c.from_residual.ensures.1 in
    let e : c.from_residual.result ≡ priced_of a.p a.durations.now a.values.now a.begin a.edges.now a.stays.now =
    rw (f.1, f.2, r.1, r.0) in
    record { value = e; result_value = ap priced_as e ∙ priced_numbers_lem a.p a.durations.now a.values.now a.begin a.edges.now a.stays.now }

pub returns-then-not-record_sound : goal.returns-then-not-record_sound
unfolding priced_of
returns-then-not-record_sound c =
    let a = c.args in
    let e : ◌≡◌ {A = Result ℤ Refusal} (Err BrokenRecord) (priced_of a.p a.durations.now a.values.now a.begin a.edges.now a.stays.now) =
    rw ((accepted a.p _ c.in_ok-sound.ensures).0, sym c.record_sound.ensures ∙ c.if-not-record_sound.true) in
    record { value = e; result_value = ap priced_as e ∙ priced_numbers_lem a.p a.durations.now a.values.now a.begin a.edges.now a.stays.now }

pub steps_fit-requires : goal.steps_fit-requires
steps_fit-requires c = let s = c in (parts s.args.p.channels s.args.durations.now s.args.values.now (sym c.record_sound.ensures ∙ c.if-not-record_sound.false)).few

pub returns-then-not-steps_fit : goal.returns-then-not-steps_fit
unfolding priced_of
returns-then-not-steps_fit c =
    let a = c.args in
    let e : ◌≡◌ {A = Result ℤ Refusal} (Err BrokenSteps) (priced_of a.p a.durations.now a.values.now a.begin a.edges.now a.stays.now) =
    rw ((accepted a.p _ c.in_ok-sound.ensures).0, (sym c.record_sound.ensures ∙ c.if-not-record_sound.false), sym c.steps_fit.ensures ∙ c.if-not-steps_fit.true) in
    record { value = e; result_value = ap priced_as e ∙ priced_numbers_lem a.p a.durations.now a.values.now a.begin a.edges.now a.stays.now }

pub invariant_of-course : goal.invariant_of-course
invariant_of-course c =
    let is = c.sound.view_is ∙ (accepted c.args.p _ c.in_ok-sound.ensures).1 in
    record {
      sound = rw is (accepted c.args.p _ c.in_ok-sound.ensures).0;
      kept = rw is (sym c.record_sound.ensures ∙ c.if-not-record_sound.false);
    }

pub score-requires : goal.score-requires
score-requires c = sym c.steps_fit.ensures ∙ c.if-not-steps_fit.false

pub returns : goal.returns
unfolding priced_of
returns c =
    let a = c.args in
    let is = c.sound.view_is ∙ (accepted a.p _ c.in_ok-sound.ensures).1 in
    let e : c.score.result ≡ priced_of a.p a.durations.now a.values.now a.begin a.edges.now a.stays.now =
    rw ((accepted a.p _ c.in_ok-sound.ensures).0, (sym c.record_sound.ensures ∙ c.if-not-record_sound.false), (sym c.steps_fit.ensures ∙ c.if-not-steps_fit.false)) (rw is at c.score.ensures) in
    record { value = e; result_value = ap priced_as e ∙ priced_numbers_lem a.p a.durations.now a.values.now a.begin a.edges.now a.stays.now }
