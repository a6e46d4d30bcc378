-- The law of long pieces: after high + 1 ticks of one piece no cell changes any more. It is no rule of document 01 but follows
-- from its rules, and feeding and the best of a record repeat the last report by it. All ticks of a piece but the first
-- are alike, and a cell of length n holds what the last n ticks made of the empty runs, whatever the table held before. The
-- proofs are in proofs/Still.antt.
use Rattle.std.specs.Prelude.{ℕ, ◌+◌, ◌≡◌, true, List, ℤ}
use Rattle.pattern.specs.declared.Pattern.{Pattern}
use Rattle.pattern.specs.Sound.{sound_of}
use Rattle.pattern.specs.Distance.{Sample}
use Rattle.monitor.specs.Cells.{held_by, written}
use Rattle.monitor.specs.Tick.{ticks_later, report_of}
use Rattle.monitor.specs.Feed.{piece_view}

-- 1. No cell changes after high + 1 ticks of a piece.
abbrev pub PieceStill : Type 0
PieceStill =
    (p : Pattern) → sound_of p ≡ true → (last vs : Sample) (t : List ℤ) (n : ℕ)
    → written p (ticks_later p (piece_view p last vs) (held_by p t) (p.high + 1 + n)) t
    ≡ written p (ticks_later p (piece_view p last vs) (held_by p t) (p.high + 1)) t

-- 2. Nor does the report.
abbrev pub PieceReports : Type 0
PieceReports =
    (p : Pattern) → sound_of p ≡ true → (last vs : Sample) (t : List ℤ) (n : ℕ)
    → report_of p (ticks_later p (piece_view p last vs) (held_by p t) (p.high + 1 + n))
    ≡ report_of p (ticks_later p (piece_view p last vs) (held_by p t) (p.high + 1))
