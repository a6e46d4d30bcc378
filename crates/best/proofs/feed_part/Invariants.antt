-- Chunk by chunk: what was fed of the ticks is what is not left.
use Prim.Native.Nat.{◌+◌, ◌-◌, ◌≤◌}
use mathlib.Core.Path.{◌≡◌}
use lib.ListN.{take}
use Rattle.record.specs.Record.{total, book_of}
use Rattle.flags.specs.Flags.{Flagged}
use Rattle.monitor.specs.Cells.{layout, written}
use Rattle.best.specs.Search.{table_to, SearchedTo}
use Rattle.best.proofs.feed_part.Given as goal

abbrev pub invariant-loop-left : goal.invariant-loop-left
invariant-loop-left l =
    (l.left ≤ l.count)
    × SearchedTo l.p (book_of l.p.channels l.lent.durations.now l.lent.values.now) (total (take l.piece l.lent.durations.now) + (l.count - l.left)) l.search
    × (l.first ≡ written l.p (table_to l.p (book_of l.p.channels l.lent.durations.now l.lent.values.now) (total (take l.piece l.lent.durations.now) + (l.count - l.left))) l.initial.first)
    × Flagged (layout l.p) l.first l.flags

abbrev pub decreases-loop-left : goal.decreases-loop-left
decreases-loop-left l = l.left
