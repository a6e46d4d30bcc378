-- `open_both`: the layout is that of the pattern.
use mathlib.Core.Path.{◌≡◌, ap, ◌∙◌}
use mathlib.Core.List.{List}
use mathlib.Core.Bool.{Bool, false}
use Rattle.table.specs.Moves.{open_of}
use Rattle.feed_ticks.specs.Ticks.{kind_flags}
use Rattle.monitor.proofs.CellLaws.{layout-made}
use Rattle.feed_moves.proofs.Meaning.{open_written}
use Rattle.feed_moves.proofs.open_both.Goals as goal

pub open-requires : goal.open-requires
open-requires c =
    let i = c.p.inside in
    let m = layout-made i.pattern c.p.invariant.0 i.layout c.p.invariant.1 in
    record { laid = m.0; inside = rw (m.1, c.p.view_is) c.requires.p_in_bounds }

pub returns : goal.returns
returns c =
    let i = c.p.inside in
    let a = c.args in
    let starts : c.kind_flags-starts.result ≡ kind_flags false i.pattern = c.kind_flags-starts.ensures in
    record {
      first_after =
          c.«open».ensures
          ∙ ap (λ (f : List Bool). open_of i.layout i.pattern.weighing f a.first.now) starts
          ∙ rw (c.p.invariant.1, ← c.p.view_is) (open_written i.pattern c.p.invariant.0 a.first.now (rw c.p.view_is c.requires.p_in_bounds));
      second_after = c.mark_all.ensures;
    }
