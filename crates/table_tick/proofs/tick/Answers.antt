-- `tick` moves all rows, then begins anew in row 0.
use Prim.Native.Nat.{◌+◌, ◌*◌}
use native.Mathlib.Omega.{arith}
use native.Mathlib.Nat.{zero-mul}
use mathlib.Core.Path.{◌≡◌, subst}
use Rattle.flags.specs.Flags.{start_flags}
use Rattle.table.specs.declared.fixed.Ground.{Ground}
use Rattle.table.specs.Moves.{begun}
use Rattle.table.proofs.Steps.{whole-rows, tick_is}
use Rattle.table.proofs.Flags.{flagged-starts}
use Rattle.table_tick.proofs.tick.Goals as goal

pub rows-told-requires : goal.rows-told-requires
rows-told-requires c =
    let g = c.args.g.now in
    (c.requires.0, whole-rows c.args.table.now g.layout g.laid c.requires.1, c.requires.2)

pub returns : goal.returns
returns c =
    let a = c.args in
    let g = a.g.now in
    let r = c.rows-told.ensures in
    let w = c.wipe_row.ensures in
    let z : 0 * g.layout.row ≡ 0 = zero-mul g.layout.row in
    let n : 0 + g.layout.row ≡ g.layout.row = omega arith in
    let e = rw (z, n) at w.table_after in
    let b = subst (λ (x : Ground). c.begin.new.table ≡ begun g.layout x.weighing x.starts c.wipe_row.new.table) c.g.view_is c.begin.ensures in
    let raised = subst (λ (x : Ground). c.raise_starts.new.flags ≡ start_flags x.starts x.layout.places c.wipe_row.new.flags) c.g.view_is c.raise_starts.ensures in
    let f = flagged-starts g.layout g.laid _ g.starts g.layout.places _ _ (omega arith) w.flagged in
    record {
      value = r.value;
      table_after = tick_is g.layout g.weighing a.v.now g.edges g.count g.starts a.table.now _ _ _ r.table_after e b;
      flagged = rw (b, raised) f;
    }
