-- `read_line` meets its contract: part by part.
use Rattle.pattern_text.specs.Form.{mapped, ◌▸◌, ◌◂◌, ◌⨾◌, number}
use Rattle.record_text.specs.Piece.{piece_line}
use Rattle.text_scan.proofs.Answered.{unmet}
use Rattle.record_read.proofs.LineLaws.{line_no_values, line_no_end, line_no_feed, line_is}
use Rattle.record_read.proofs.read_line.Goals as goal

pub returns-in_err-rest : goal.returns-in_err-rest
unfolding piece_line mapped ◌▸◌ ◌⨾◌ ◌◂◌ number
returns-in_err-rest c = rw (c.from_residual.ensures, ← c.in_err-rest.ensures)

pub returns-in_err-duration : goal.returns-in_err-duration
unfolding piece_line mapped ◌▸◌ ◌⨾◌ ◌◂◌ number
returns-in_err-duration c = rw (c.from_residual-in_err-duration.ensures, ← c.in_ok-rest.ensures, unmet _ _ c.in_err-duration.ensures)

pub returns-then-values-lt1 : goal.returns-then-values-lt1
returns-then-values-lt1 c = line_no_values _ _ _ _ c.in_ok-rest.ensures _ c.in_ok-duration.ensures _ c.read_values.ensures c.if-values-lt1.true

pub returns-in_err-rest-2 : goal.returns-in_err-rest-2
returns-in_err-rest-2 c =
    rw c.from_residual-in_err-rest-2.ensures (line_no_end _ _ _ _ c.in_ok-rest.ensures _ c.in_ok-duration.ensures _ c.read_values.ensures c.in_err-rest-2.ensures)

pub returns-in_err-rest-3 : goal.returns-in_err-rest-3
returns-in_err-rest-3 c =
    rw c.from_residual-in_err-rest-3.ensures
    (line_no_feed _ _ _ _ c.in_ok-rest.ensures _ c.in_ok-duration.ensures _ c.read_values.ensures c.if-values-lt1.false _ c.in_ok-rest-2.ensures c.in_err-rest-3.ensures)

pub returns : goal.returns
returns c =
    line_is _ _ _ _ c.in_ok-rest.ensures _ c.in_ok-duration.ensures _ c.read_values.ensures c.if-values-lt1.false _ c.in_ok-rest-2.ensures _ c.in_ok-rest-3.ensures
