-- A sound pattern's text fits the buffer, so the buffer holds it whole.
use Rattle.std.proofs.Common.{◌≡◌, ◌∙◌, ℕ, true, sym, arith}
use lib.ListN.{length-replicate}
use lib.Seq.{length-take-le}
use Rattle.pattern.specs.Sound.{sound_of}
use Rattle.std.proofs.lemmas.Result.{err_from_is_err_and}
use Rattle.pattern.proofs.Judged.{accepted, refused}
use Rattle.pattern_text.specs.Text.{render_of}
use Rattle.pattern_text.proofs.Theorems.{texts_short}
use Rattle.pattern_write.proofs.Answers.{Whole, whole, copied, unsound, too_short, written}
use Rattle.pattern_write.proofs.write.Goals as goal
use Rattle.pattern_write.proofs.write.Goals.{After-put_pattern-n}

is_sound : (c : After-put_pattern-n) → sound_of c.args.p ≡ true
is_sound c = (accepted c.args.p _ c.in_ok-p.ensures).0

in_text : (c : After-put_pattern-n) → Whole c.put_pattern-n.new.text c.put_pattern-n.result (render_of c.args.p)
in_text c =
    let room = length-replicate {A = ℕ} 8_192 0 in
    let same = c.p.view_is ∙ (accepted c.args.p _ c.in_ok-p.ensures).1 in
    whole (rw same at c.put_pattern-n.ensures) (rw room (texts_short c.args.p (is_sound c)))

pub returns-in_err-p : goal.returns-in_err-p
returns-in_err-p c =
    let r = refused c.args.p _ c.in_err-p.ensures in
    let k = unsound c.args.p c.args.out.now r.0 in
    let e = err_from_is_err_and c.from_residual.result c.from_residual.ensures.1 in
    record { value = rw (e.1, e.2, r.1) k.0; result_value = rw (e.1, e.2, r.1) k.1; out_after = k.2 }

pub returns-then-out-n : goal.returns-then-out-n
returns-then-out-n c =
    let a = (goal.at.returns-then-out-n c).After-put_pattern-n in
    let s = (in_text a).size in
    let k = too_short c.args.p c.args.out.now (is_sound a) (omega arith) in
    record { value = k.0; result_value = k.1; out_after = k.2 }

pub slice_bounds-text-end : goal.slice_bounds-text-end
slice_bounds-text-end c = (in_text (goal.at.slice_bounds-text-end c).After-put_pattern-n).room

pub slice_bounds-copy_from_slice-end-3 : goal.slice_bounds-copy_from_slice-end-3
slice_bounds-copy_from_slice-end-3 c =
    let w = in_text (goal.at.slice_bounds-copy_from_slice-end-3 c).After-put_pattern-n in
    sym (length-take-le _ _ w.room)

pub copy_from_slice-requires : goal.copy_from_slice-requires
copy_from_slice-requires c =
    let w = in_text (goal.at.copy_from_slice-requires c).After-put_pattern-n in
    length-take-le _ _ c.if-out-n.false ∙ sym (length-take-le _ _ w.room)

pub returns : goal.returns
returns c =
    let a = (goal.at.returns c).After-put_pattern-n in
    let w = in_text a in
    let s = w.size in
    let k = written c.args.p c.args.out.now (is_sound a) (omega arith) s (copied c.args.out.now w c.copy_from_slice.ensures.after) in
    record { value = k.0; result_value = k.1; out_after = k.2 }
