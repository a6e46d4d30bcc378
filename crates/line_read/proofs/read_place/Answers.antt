-- `read_place` meets its contract: part by part.
use Rattle.pattern_text.specs.Bytes.{got}
use Rattle.pattern_text.specs.Form.{mapped, ◌▸◌, ◌◂◌, ◌⨾◌, number}
use Rattle.pattern_text.specs.Line.{place_line}
use Rattle.text_scan.proofs.Answered.{met}
use Rattle.line_read.proofs.read_place.Goals as goal

pub returns-in_err-rest : goal.returns-in_err-rest
unfolding place_line mapped ◌▸◌ ◌⨾◌ ◌◂◌ number
returns-in_err-rest c = rw (c.from_residual.ensures, ← c.in_err-rest.ensures)

pub returns-in_err-kind : goal.returns-in_err-kind
unfolding place_line mapped ◌▸◌ ◌⨾◌ ◌◂◌ number
returns-in_err-kind c = rw (c.from_residual-in_err-kind.ensures, ← c.in_ok-rest.ensures, ← c.in_err-kind.ensures)

pub returns-in_err-rest-2 : goal.returns-in_err-rest-2
unfolding place_line mapped ◌▸◌ ◌⨾◌ ◌◂◌ number
returns-in_err-rest-2 c = rw (c.from_residual-in_err-rest-2.ensures, ← c.in_ok-rest.ensures, ← c.in_ok-kind.ensures, (met _ _ c.read_tests.ensures).is, ← c.in_err-rest-2.ensures)

pub returns-in_err-rest-3 : goal.returns-in_err-rest-3
unfolding place_line mapped ◌▸◌ ◌⨾◌ ◌◂◌ number
returns-in_err-rest-3 c = rw (c.from_residual-in_err-rest-3.ensures, ← c.in_ok-rest.ensures, ← c.in_ok-kind.ensures, (met _ _ c.read_tests.ensures).is, ← c.in_ok-rest-2.ensures, ← c.in_err-rest-3.ensures)

pub returns : goal.returns
unfolding place_line mapped ◌▸◌ ◌⨾◌ ◌◂◌ number
returns c =
    rw (← c.in_ok-rest.ensures, ← c.in_ok-kind.ensures, (met _ _ c.read_tests.ensures).is, ← c.in_ok-rest-2.ensures, ← c.in_ok-rest-3.ensures)
    (λ i. got (record { kind = c.in_ok-kind.kind; tests = (met _ _ c.read_tests.ensures).made i }) c.in_ok-rest-3.rest.now)
