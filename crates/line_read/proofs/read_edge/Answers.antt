-- `read_edge` meets its contract: part by part.
use Rattle.pattern_text.specs.Bytes.{got}
use Rattle.pattern_text.specs.Form.{mapped, ◌▸◌, ◌◂◌, ◌⨾◌, number}
use Rattle.pattern_text.specs.Line.{edge_line}
use Rattle.text_scan.proofs.Answered.{met, unmet}
use Rattle.line_parts.proofs.Spaced.{spaced_there, unspaced}
use Rattle.line_read.proofs.read_edge.Goals as goal

pub returns-in_err-rest : goal.returns-in_err-rest
unfolding edge_line mapped ◌▸◌ ◌⨾◌ ◌◂◌ number
returns-in_err-rest c = rw (c.from_residual.ensures, ← c.in_err-rest.ensures)

pub returns-in_err-from : goal.returns-in_err-from
unfolding edge_line mapped ◌▸◌ ◌⨾◌ ◌◂◌ number
returns-in_err-from c = rw (c.from_residual-in_err-from.ensures, ← c.in_ok-rest.ensures, unmet _ _ c.in_err-from.ensures)

pub returns-in_err-to : goal.returns-in_err-to
unfolding edge_line mapped ◌▸◌ ◌⨾◌ ◌◂◌ number
returns-in_err-to c =
    unspaced c.in_ok-from.rest.now (unmet _ _ c.in_err-to.ensures)
    (λ h. rw (c.from_residual-in_err-to.ensures, ← c.in_ok-rest.ensures, (met _ _ c.in_ok-from.ensures).is, h))
    (λ s h n. rw (c.from_residual-in_err-to.ensures, ← c.in_ok-rest.ensures, (met _ _ c.in_ok-from.ensures).is, h, n))

pub returns-in_err-rest-2 : goal.returns-in_err-rest-2
unfolding edge_line mapped ◌▸◌ ◌⨾◌ ◌◂◌ number
returns-in_err-rest-2 c =
    let to = spaced_there _ _ _ (met _ _ c.in_ok-to.ensures).is in
    rw (
      c.from_residual-in_err-rest-2.ensures,
      ← c.in_ok-rest.ensures,
      (met _ _ c.in_ok-from.ensures).is,
      to.space,
      to.digits,
      (met _ _ c.read_guards.ensures).is,
      (met _ _ c.read_resets.ensures).is,
      ← c.in_err-rest-2.ensures,
    )

pub returns-in_err-rest-3 : goal.returns-in_err-rest-3
unfolding edge_line mapped ◌▸◌ ◌⨾◌ ◌◂◌ number
returns-in_err-rest-3 c =
    let to = spaced_there _ _ _ (met _ _ c.in_ok-to.ensures).is in
    rw (
      c.from_residual-in_err-rest-3.ensures,
      ← c.in_ok-rest.ensures,
      (met _ _ c.in_ok-from.ensures).is,
      to.space,
      to.digits,
      (met _ _ c.read_guards.ensures).is,
      (met _ _ c.read_resets.ensures).is,
      ← c.in_ok-rest-2.ensures,
      ← c.in_err-rest-3.ensures,
    )

pub returns : goal.returns
unfolding edge_line mapped ◌▸◌ ◌⨾◌ ◌◂◌ number
returns c =
    let to = spaced_there _ _ _ (met _ _ c.in_ok-to.ensures).is in
    rw (
      ← c.in_ok-rest.ensures,
      (met _ _ c.in_ok-from.ensures).is,
      to.space,
      to.digits,
      (met _ _ c.read_guards.ensures).is,
      (met _ _ c.read_resets.ensures).is,
      ← c.in_ok-rest-2.ensures,
      ← c.in_ok-rest-3.ensures,
    )
    (λ i. got (record {
      from = (met _ _ c.in_ok-from.ensures).made i;
      to = (met _ _ c.in_ok-to.ensures).made i;
      guards = (met _ _ c.read_guards.ensures).made i;
      resets = (met _ _ c.read_resets.ensures).made i;
    }) c.in_ok-rest-3.rest.now)
