-- Piece by piece.
use mathlib.Core.Path.{◌≡◌}
use lib.ListN.{take}
use Rattle.record.specs.Record.{total, book_of}
use Rattle.flags.specs.Flags.{Flagged}
use Rattle.monitor.specs.Cells.{layout, written}
use Rattle.best.specs.Search.{table_to, Fit}
use Rattle.best.proofs.feed_all.Given as goal

abbrev pub invariant-loop-piece : goal.invariant-loop-piece
invariant-loop-piece l =
    Fit l.p l.lent.durations.now l.lent.values.now l.piece l.search l.first
    × (l.first ≡ written l.p (table_to l.p (book_of l.p.channels l.lent.durations.now l.lent.values.now) (total (take l.piece l.lent.durations.now))) l.initial.first)
    × Flagged (layout l.p) l.first l.flags
