-- The text's end, or a chunk of a piece.
use Prim.Native.Nat.{◌<◌}
use native.Mathlib.Omega.{arith}
use Rattle.watch_steps.proofs.Steps.{begins, last_put, few-channels, chunk-room, chunk-lengths, chunk_put}
use Rattle.watch_steps.proofs.step_rows.Goals as goal

pub put_best-requires : goal.put_best-requires
put_best-requires c = begins c.requires.1 c.move_on-cursor.ensures c.if-cursor-eq0.true

pub step_chunk-requires : goal.step_chunk-requires
step_chunk-requires c =
    let more : 0 < c.move_on-cursor.result.left = let h = c.if-cursor-eq0.false in omega arith in
    let u = c.requires.1 in
    let on = c.move_on-cursor.ensures in
    (few-channels u on more, chunk-room u on more, chunk-lengths u on more)

pub returns-then-cursor-eq0 : goal.returns-then-cursor-eq0
returns-then-cursor-eq0 c =
    let o = c.put_best.ensures in
    rw c.requires.0 (last_put c.requires.1 c.move_on-cursor.ensures c.if-cursor-eq0.true o.put o.best_bound)

pub returns-else-cursor-eq0 : goal.returns-else-cursor-eq0
returns-else-cursor-eq0 c =
    let more : 0 < c.move_on-cursor.result.left = let h = c.if-cursor-eq0.false in omega arith in
    rw c.requires.0 (chunk_put c.requires.1 c.move_on-cursor.ensures more (rw c.requires.0 at c.step_chunk.ensures))
