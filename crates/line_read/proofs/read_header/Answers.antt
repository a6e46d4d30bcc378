-- `read_header` meets its contract: part by part.
use Rattle.pattern_text.specs.Bytes.{got}
use Rattle.pattern_text.specs.Form.{mapped, ◌▸◌, ◌◂◌, ◌⨾◌, number}
use Rattle.pattern_text.specs.Line.{header_line}
use Rattle.text_scan.proofs.Answered.{met, unmet}
use Rattle.line_parts.proofs.Spaced.{spaced_there, unspaced}
use Rattle.line_read.proofs.read_header.Goals as goal

pub returns-in_err-rest : goal.returns-in_err-rest
unfolding header_line mapped ◌▸◌ ◌⨾◌ ◌◂◌ number
returns-in_err-rest c = rw (c.from_residual.ensures, ← c.in_err-rest.ensures)

pub returns-in_err-weighing : goal.returns-in_err-weighing
unfolding header_line mapped ◌▸◌ ◌⨾◌ ◌◂◌ number
returns-in_err-weighing c = rw (c.from_residual-in_err-weighing.ensures, ← c.in_ok-rest.ensures, ← c.in_err-weighing.ensures)

pub returns-in_err-channels : goal.returns-in_err-channels
unfolding header_line mapped ◌▸◌ ◌⨾◌ ◌◂◌ number
returns-in_err-channels c =
    rw (c.from_residual-in_err-channels.ensures, ← c.in_ok-rest.ensures, ← c.in_ok-weighing.ensures, unmet _ _ c.in_err-channels.ensures)

pub returns-in_err-clocks : goal.returns-in_err-clocks
unfolding header_line mapped ◌▸◌ ◌⨾◌ ◌◂◌ number
returns-in_err-clocks c =
    unspaced c.in_ok-channels.rest.now (unmet _ _ c.in_err-clocks.ensures)
    (λ h. rw (
      c.from_residual-in_err-clocks.ensures,
      ← c.in_ok-rest.ensures,
      ← c.in_ok-weighing.ensures,
      (met _ _ c.in_ok-channels.ensures).is,
      h,
    ))
    (λ s h n. rw (
      c.from_residual-in_err-clocks.ensures,
      ← c.in_ok-rest.ensures,
      ← c.in_ok-weighing.ensures,
      (met _ _ c.in_ok-channels.ensures).is,
      h,
      n,
    ))

pub returns-in_err-low : goal.returns-in_err-low
unfolding header_line mapped ◌▸◌ ◌⨾◌ ◌◂◌ number
returns-in_err-low c =
    let clocks = spaced_there _ _ _ (met _ _ c.in_ok-clocks.ensures).is in
    unspaced c.in_ok-clocks.rest.now (unmet _ _ c.in_err-low.ensures)
    (λ h. rw (
      c.from_residual-in_err-low.ensures,
      ← c.in_ok-rest.ensures,
      ← c.in_ok-weighing.ensures,
      (met _ _ c.in_ok-channels.ensures).is,
      clocks.space,
      clocks.digits,
      h,
    ))
    (λ s h n. rw (
      c.from_residual-in_err-low.ensures,
      ← c.in_ok-rest.ensures,
      ← c.in_ok-weighing.ensures,
      (met _ _ c.in_ok-channels.ensures).is,
      clocks.space,
      clocks.digits,
      h,
      n,
    ))

pub returns-in_err-high : goal.returns-in_err-high
unfolding header_line mapped ◌▸◌ ◌⨾◌ ◌◂◌ number
returns-in_err-high c =
    let clocks = spaced_there _ _ _ (met _ _ c.in_ok-clocks.ensures).is in
    let low = spaced_there _ _ _ (met _ _ c.in_ok-low.ensures).is in
    unspaced c.in_ok-low.rest.now (unmet _ _ c.in_err-high.ensures)
    (λ h. rw (
      c.from_residual-in_err-high.ensures,
      ← c.in_ok-rest.ensures,
      ← c.in_ok-weighing.ensures,
      (met _ _ c.in_ok-channels.ensures).is,
      clocks.space,
      clocks.digits,
      low.space,
      low.digits,
      h,
    ))
    (λ s h n. rw (
      c.from_residual-in_err-high.ensures,
      ← c.in_ok-rest.ensures,
      ← c.in_ok-weighing.ensures,
      (met _ _ c.in_ok-channels.ensures).is,
      clocks.space,
      clocks.digits,
      low.space,
      low.digits,
      h,
      n,
    ))

pub returns-in_err-rest-2 : goal.returns-in_err-rest-2
unfolding header_line mapped ◌▸◌ ◌⨾◌ ◌◂◌ number
returns-in_err-rest-2 c =
    let clocks = spaced_there _ _ _ (met _ _ c.in_ok-clocks.ensures).is in
    let low = spaced_there _ _ _ (met _ _ c.in_ok-low.ensures).is in
    let high = spaced_there _ _ _ (met _ _ c.in_ok-high.ensures).is in
    rw (
      c.from_residual-in_err-rest-2.ensures,
      ← c.in_ok-rest.ensures,
      ← c.in_ok-weighing.ensures,
      (met _ _ c.in_ok-channels.ensures).is,
      clocks.space,
      clocks.digits,
      low.space,
      low.digits,
      high.space,
      high.digits,
      ← c.in_err-rest-2.ensures,
    )

pub returns-in_err-rest-3 : goal.returns-in_err-rest-3
unfolding header_line mapped ◌▸◌ ◌⨾◌ ◌◂◌ number
returns-in_err-rest-3 c =
    let clocks = spaced_there _ _ _ (met _ _ c.in_ok-clocks.ensures).is in
    let low = spaced_there _ _ _ (met _ _ c.in_ok-low.ensures).is in
    let high = spaced_there _ _ _ (met _ _ c.in_ok-high.ensures).is in
    rw (
      c.from_residual-in_err-rest-3.ensures,
      ← c.in_ok-rest.ensures,
      ← c.in_ok-weighing.ensures,
      (met _ _ c.in_ok-channels.ensures).is,
      clocks.space,
      clocks.digits,
      low.space,
      low.digits,
      high.space,
      high.digits,
      ← c.in_ok-rest-2.ensures,
      ← c.in_err-rest-3.ensures,
    )

pub returns : goal.returns
unfolding header_line mapped ◌▸◌ ◌⨾◌ ◌◂◌ number
returns c =
    let clocks = spaced_there _ _ _ (met _ _ c.in_ok-clocks.ensures).is in
    let low = spaced_there _ _ _ (met _ _ c.in_ok-low.ensures).is in
    let high = spaced_there _ _ _ (met _ _ c.in_ok-high.ensures).is in
    rw (
      ← c.in_ok-rest.ensures,
      ← c.in_ok-weighing.ensures,
      (met _ _ c.in_ok-channels.ensures).is,
      clocks.space,
      clocks.digits,
      low.space,
      low.digits,
      high.space,
      high.digits,
      ← c.in_ok-rest-2.ensures,
      ← c.in_ok-rest-3.ensures,
    )
    (λ i. got (record {
      weighing = c.in_ok-weighing.weighing;
      channels = (met _ _ c.in_ok-channels.ensures).made i;
      clocks = (met _ _ c.in_ok-clocks.ensures).made i;
      low = (met _ _ c.in_ok-low.ensures).made i;
      high = (met _ _ c.in_ok-high.ensures).made i;
    }) c.in_ok-rest-3.rest.now)
