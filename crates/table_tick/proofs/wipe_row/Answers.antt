-- `wipe_row` clears a row and takes its flags back, or finds only marks there.
use Prim.Native.Nat.{◌+◌, ◌-◌, ◌*◌}
use native.Mathlib.Omega.{arith}
use mathlib.Core.Path.{◌≡◌}
use lib.ListN.{get_or}
use Rattle.flags.specs.Flags.{RowFlagged}
use Rattle.table.proofs.Flags.{row_wiped, row-none}
use Rattle.table_tick.proofs.wipe_row.Goals as goal

pub returns-then-f-gt0 : goal.returns-then-f-gt0
returns-then-f-gt0 c =
    let a = c.args in
    let g = a.g.now in
    let w = c.wipe_blocks.ensures in
    let e : a.n * g.layout.row + g.layout.row - a.n * g.layout.row ≡ g.layout.row = omega arith in
    record {
      table_after = rw e w;
      flagged = rw w (row_wiped g.layout g.laid a.table.now a.flags.now a.n c.requires.2 c.requires.0 c.requires.1);
    }

pub returns-else-f-gt0 : goal.returns-else-f-gt0
returns-else-f-gt0 c =
    let a = c.args in
    let g = a.g.now in
    let e : a.n * g.layout.row + g.layout.row - a.n * g.layout.row ≡ g.layout.row = omega arith in
    let z : get_or a.flags.now a.n 0 ≡ 0 = omega arith in
    let none : RowFlagged g.layout a.table.now 0 a.n = rw z at (c.requires.1.rows a.n c.requires.2) in
    record {
      table_after = rw e (row-none g.layout g.laid a.table.now a.n none);
      flagged = c.requires.1;
    }
