-- `flag_opened` raises the flags of the start places: all other cells of an opened table are marks.
use native.Mathlib.Omega.{arith}
use mathlib.Core.Path.{◌≡◌, refl}
use mathlib.Core.Bool.{false}
use Rattle.pattern.proofs.SoundLaws.{parts}
use Rattle.cells.specs.Layout.{layout_of}
use Rattle.table.proofs.Flags.{flagged_open}
use Rattle.feed_ticks.specs.Ticks.{kind_flags}
use Rattle.monitor.proofs.CellLaws.{layout-made}
use Rattle.feed_moves.proofs.Meaning.{open_written}
use Rattle.feed_moves.proofs.flag_opened.Goals as goal

pub raise_starts-requires : goal.raise_starts-requires
raise_starts-requires c =
    let few = (parts c.p.inside.pattern c.p.invariant.0).places.few in
    let wide = c.requires in
    rw (c.from.ensures) (omega arith, omega arith)

pub returns : goal.returns
unfolding layout_of
returns c =
    let p = c.p.inside.pattern in
    let sound = c.p.invariant.0 in
    let wide = c.requires in
    let high = (parts p sound).short_high in
    rw (← c.p.view_is) (λ t long.
    let m = layout-made p sound _ refl in
    let cells = m.1 in
    let starts : c.kind_flags-starts.result ≡ kind_flags false p = c.kind_flags-starts.ensures in
    rw (c.raise_starts.ensures, c.from.ensures, starts, ← open_written p sound t long)
    (flagged_open _ m.0 p.weighing (kind_flags false p) t _ (omega arith) (omega arith)))
