-- What a buffer holds of a text that is too long is too long itself, and nothing else is then looked at.
use Prim.Native.Nat.{◌<◌}
use native.Mathlib.Omega.{arith}
use mathlib.Core.Path.{◌≡◌, refl, sym, ap, ◌∙◌}
use borrow.Author.Tests.{ltb-true, ltb-false, lt-ltb}
use lib.Dec.{ltb}
use lib.ListN.{length, take, length-take}
use lib.Seq.{take_all}
use Rattle.pattern.specs.declared.Pattern.{Pattern}
use Rattle.pattern.specs.declared.Refusal.TheVariants.{TextTooLong}
use Rattle.pattern_text.specs.Bytes.{Bytes}
use Rattle.pattern_text.specs.Text.{Answer, accepted, refused, read_of}
use Rattle.pattern_text.proofs.Tools.{by-test}
use Rattle.pattern_text.proofs.Answers.{over}
use Rattle.record_text.specs.Text.{record_refusal}
use Rattle.watch_text.specs.Shown.{refused_text}
use Rattle.watch_steps.specs.Watch.{answered_with}
use Rattle.watch_start.specs.Buffers.{pattern_buffer, record_buffer}
use Rattle.watch_start.specs.Claims.{BuffersSuffice}

pattern_cut : (t : Bytes) → read_of (take pattern_buffer t) ≡ read_of t
pattern_cut t = by-test (ltb 8_192 (length t))
    (λ e.
    let long = ltb-true 8_192 (length t) e in
    let held = length-take pattern_buffer t in
    over (take pattern_buffer t) (omega arith) ∙ sym (over t long))
    (λ e. let short = ltb-false 8_192 (length t) e in ap read_of (take_all pattern_buffer t (omega arith)))

record_long : (p : Pattern) (t : Bytes) → 16_384 < length t → answered_with (accepted p) t ≡ refused_text TextTooLong
unfolding record_refusal
record_long p t h = rw (lt-ltb 16_384 (length t) h) refl

record_cut : (a : Answer) (t : Bytes) → answered_with a (take record_buffer t) ≡ answered_with a t
record_cut (refused r) t = refl
record_cut (accepted p) t = by-test (ltb 16_384 (length t))
    (λ e.
    let long = ltb-true 16_384 (length t) e in
    let held = length-take record_buffer t in
    record_long p (take record_buffer t) (omega arith) ∙ sym (record_long p t long))
    (λ e. let short = ltb-false 16_384 (length t) e in ap (answered_with (accepted p)) (take_all record_buffer t (omega arith)))

pub buffers_suffice : BuffersSuffice
buffers_suffice pattern text =
    ap (λ (a : Answer). answered_with a (take record_buffer text)) (pattern_cut pattern) ∙ record_cut (read_of pattern) text
