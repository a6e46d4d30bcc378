-- `best`: refused as an opening is, once the pattern and the record are sound; else the choice after all ticks is the record's.
use Prim.Native.Nat.{◌≤◌}
use mathlib.Core.Path.{◌≡◌, refl, sym, ap, subst, ◌∙◌}
use mathlib.Core.List.{List}
use mathlib.Core.Option.{none, some}
use lib.ListN.{length}
use lib.IntN.{ℤ}
use Rattle.std.specs.Prelude.{Ok}
use Rattle.std.proofs.lemmas.Result.{err_from_is_err_and}
use Rattle.pattern.specs.declared.Pattern.{Pattern}
use Rattle.pattern.specs.Cells.{cells_needed}
use Rattle.pattern.proofs.Judged.{accepted}
use Rattle.record.specs.Record.{book_of, total}
use Rattle.flags.specs.Flags.{Flagged}
use Rattle.monitor.specs.Cells.{layout, written}
use Rattle.monitor.specs.Tick.{open_table}
use Rattle.monitor.specs.State.{no_ticks}
use Rattle.monitor.specs.Open.{open_refusal}
use Rattle.monitor.proofs.Accepted.{done, handed, refused_for_lem}
use Rattle.best.specs.Best.{best_refusal, best_of, found_as, chosen_to, chosen_of}
use Rattle.best.specs.Search.{table_to, chosen_in, SearchedTo}
use Rattle.best.proofs.Answer.{best_numbers_lem}
use Rattle.best.proofs.Ends.{begins-inside}
use Rattle.best.proofs.Pieces.{book-long}
use Rattle.best.proofs.Whole.{as-opening, fit, flagged, first-left, second-left}
use Rattle.best.proofs.best.Goals as goal

pub returns-in_err-state : goal.returns-in_err-state
returns-in_err-state c =
    let a = c.args in
    let k = c.in_err-state.ensures in
    let o : open_refusal a.p (length a.first.now) (length a.second.now) ≡ some c.in_err-state.field-0.0 = refused_for_lem no_ticks _ _ k.value in
    let e : best_refusal a.p a.durations.now a.values.now (length a.first.now) (length a.second.now) ≡ some c.in_err-state.field-0.0 =
    as-opening a.p a.durations.now a.values.now _ _ (accepted a.p _ c.in_ok-plan.ensures).0 (sym c.record_sound.ensures ∙ c.if-not-record_sound.false) ∙ o in
    let q = err_from_is_err_and c.from_residual-in_err-state.result c.from_residual-in_err-state.ensures.1 in
    let v : c.from_residual-in_err-state.result ≡ best_of a.p a.durations.now a.values.now a.first.now a.second.now = rw (q.1, q.2, e) in
    record {
      value = v;
      result_value = ap found_as v ∙ best_numbers_lem a.p a.durations.now a.values.now a.first.now a.second.now;
      first_after = k.first_after ∙ rw (o, e);
      second_after = k.second_after ∙ rw (o, e);
    }

pub feed_all-end-requires : goal.feed_all-end-requires
feed_all-end-requires c =
    let a = c.args in
    let k = c.in_ok-state.ensures in
    let e : best_refusal a.p a.durations.now a.values.now (length a.first.now) (length a.second.now) ≡ none =
    as-opening a.p a.durations.now a.values.now _ _ (accepted a.p _ c.in_ok-plan.ensures).0 (sym c.record_sound.ensures ∙ c.if-not-record_sound.false)
    ∙ done no_ticks _ k.value in
    let q = (accepted a.p _ c.in_ok-plan.ensures).1 in
    let opened = subst (λ (x : Pattern). (t : List ℤ) → cells_needed x ≤ length t → Flagged (layout x) (written x (open_table x) t) c.flag_opened.new.flags) q c.flag_opened.ensures in (
      rw (q, k.first_after) (fit a.p a.durations.now a.values.now a.first.now a.second.now e _ (handed no_ticks _ k.value) refl),
      rw (q, k.first_after) (flagged a.p a.durations.now a.values.now a.first.now a.second.now e _ opened),
    )

pub told-requires : goal.told-requires
told-requires c =
    let a = c.args in
    let ds = a.durations.now in
    let vs = a.values.now in
    let searched = subst (λ (x : Pattern). SearchedTo x (book_of x.channels ds vs) (total ds) c.feed_all-end.result) (accepted a.p _ c.in_ok-plan.ensures).1 c.feed_all-end.ensures.searched_to in
    begins-inside a.p (accepted a.p _ c.in_ok-plan.ensures).0 (book_of a.p.channels ds vs) _
    (searched.1 ∙ ap (chosen_to a.p (book_of a.p.channels ds vs)) (sym (book-long a.p a.p.channels ds vs)))

pub returns : goal.returns
returns c =
    let a = c.args in
    let ds = a.durations.now in
    let vs = a.values.now in
    let k = c.in_ok-state.ensures in
    let f = c.feed_all-end.ensures in
    let q = (accepted a.p _ c.in_ok-plan.ensures).1 in
    let searched = subst (λ (x : Pattern). SearchedTo x (book_of x.channels ds vs) (total ds) c.feed_all-end.result) q f.searched_to in
    let fed = subst (λ (x : Pattern). c.feed_all-end.new.first ≡ written x (table_to x (book_of x.channels ds vs) (total ds)) c.«open».new.first) q f.first_after in
    let e : best_refusal a.p ds vs (length a.first.now) (length a.second.now) ≡ none =
    as-opening a.p ds vs _ _ (accepted a.p _ c.in_ok-plan.ensures).0 (sym c.record_sound.ensures ∙ c.if-not-record_sound.false) ∙ done no_ticks _ k.value in
    let chosen : chosen_in c.feed_all-end.result.choice ≡ chosen_of a.p (book_of a.p.channels ds vs) =
    searched.1 ∙ ap (chosen_to a.p (book_of a.p.channels ds vs)) (sym (book-long a.p a.p.channels ds vs)) in
    let v : Ok c.told.result ≡ best_of a.p ds vs a.first.now a.second.now = rw (e, c.told.ensures, chosen) in
    record {
      value = v;
      result_value = ap found_as v ∙ best_numbers_lem a.p ds vs a.first.now a.second.now;
      first_after = first-left a.p ds vs a.first.now a.second.now e _ (rw (← k.first_after) fed);
      second_after = k.second_after ∙ second-left a.p ds vs a.first.now a.second.now e;
    }
