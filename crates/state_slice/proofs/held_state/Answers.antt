-- `held_state`: an entry that does not fit leaves no state; where all fit, the loop has read the values.
use borrow.Author.Rules.{rules}
use Prim.Native.Nat.{◌+◌}
use native.Mathlib.Omega.{arith}
use mathlib.Core.Path.{◌≡◌, refl, sym, ◌∙◌}
use borrow.Author.Tests.{lt-leb}
use lib.ListN.{length, drop, take, get_or, replicate, length-take, length-drop}
use lib.Seq.{take_all}
use lib.IntN.{pos, nat_abs}
use mir.Syntax.{w32, w64}
use mir.Val.{SFits}
use Rattle.std.specs.Prelude.{OkIff}
use Rattle.std.specs.Int.{FitsUnsignedBits}
use Rattle.integers.proofs.Casts.{read_back}
use Rattle.pattern.proofs.ListLaws.{take_more, stored_more, stored-all}
use Rattle.pattern.proofs.SlotLaws.{all_snoc}
use Rattle.state_slice.specs.Slice.{is_value, last_in}
use Rattle.state_slice.proofs.Entries.{ticks_told, no_ticks_told, value_told, no_value_told}
use Rattle.state_slice.proofs.Slices.{value_at, short, no_ticks, no_value, held}
use Rattle.state_slice.proofs.held_state.Goals as goal

pub returns-then-entries-lt9 : goal.returns-then-entries-lt9
returns-then-entries-lt9 c = short c.args.entries.now (lt-leb 9 _ c.if-entries-lt9.true)

pub returns-in_err-ticks : goal.returns-in_err-ticks
returns-in_err-ticks c =
    let es = c.args.entries.now in
    let v = get_or es 0 (pos 0) in
    let o : OkIff c.try_from.result (FitsUnsignedBits 32 v) (nat_abs v) = rw (read_back w64 v (record { sfits = search rules })) at c.try_from.ensures in
    rw c.from_residual.ensures (no_ticks es (no_ticks_told v c.try_from.result o c.in_err-ticks.ensures.value))

pub returns-in_err-last : goal.returns-in_err-last
returns-in_err-last c =
    let es = c.args.entries.now in
    let i = c.loop-i.i in
    let v = get_or es (i + 1) (pos 0) in
    let o : OkIff c.try_from-in-loop-i.result (SFits w32 v) v = rw (read_back w64 v (record { sfits = search rules })) at c.try_from-in-loop-i.ensures in
    rw c.from_residual-in_err-last.ensures (no_value es i (omega arith) (omega arith) (no_value_told v c.try_from-in-loop-i.result o c.in_err-last.ensures.value))

pub loop-i-preserved : goal.loop-i-preserved
loop-i-preserved c =
    let l = c.loop-i in
    let es = c.args.entries.now in
    let x = c.in_ok-last.field-0 in
    let v = get_or es (l.i + 1) (pos 0) in
    let o : OkIff c.try_from-in-loop-i.result (SFits w32 v) v = rw (read_back w64 v (record { sfits = search rules })) at c.try_from-in-loop-i.ensures in
    let k = value_told v c.try_from-in-loop-i.result x o c.in_ok-last.ensures.value in
    let d = length-drop 1 es in
    let n : length (last_in es) ≡ 8 = length-take 8 (drop 1 es) ∙ omega arith in
    let at : get_or (last_in es) l.i (pos 0) ≡ v = value_at es l.i (omega arith) in (
      rw (k.2, read_back w32 v k.0, ← at, l.invariant.0) (stored_more (replicate 8 (pos 0)) (last_in es) l.i (pos 0) (omega arith) (omega arith)),
      rw (take_more l.i (last_in es) (pos 0) (omega arith), all_snoc is_value (take l.i (last_in es)) (get_or (last_in es) l.i (pos 0)), l.invariant.1, at) k.1,
    )

pub returns : goal.returns
returns c =
    let l = c.loop-i in
    let es = c.args.entries.now in
    let v = get_or es 0 (pos 0) in
    let o : OkIff c.try_from.result (FitsUnsignedBits 32 v) (nat_abs v) = rw (read_back w64 v (record { sfits = search rules })) at c.try_from.ensures in
    let k = ticks_told v c.try_from.result c.in_ok-ticks.ticks o c.in_ok-ticks.ensures.value in
    let d = length-drop 1 es in
    let n : length (last_in es) ≡ 8 = length-take 8 (drop 1 es) ∙ omega arith in
    let i-is : l.i ≡ 8 = omega arith in
    let read : l.last ≡ last_in es = l.invariant.0 ∙ rw i-is (stored-all (replicate 8 (pos 0)) (last_in es) 8 refl n) in
    rw (k.1, read) (sym (held es (omega arith) k.0 (rw (i-is, take_all 8 (last_in es) (omega arith)) at l.invariant.1)))
