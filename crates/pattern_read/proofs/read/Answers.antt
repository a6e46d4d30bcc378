-- 1, or what the walk over the lines ends with.
use Rattle.std.proofs.Common.{◌≡◌, ◌∙◌, ◌≤◌, ◌<◌, ℕ, [], ap, sym, refl, arith, length, drop, Result, Ok, length-drop}
use Rattle.std.proofs.lemmas.Result.{err_from_is_err_and}
use borrow.Author.Tests.{lt-ltb, le-ltb, ltb-true, ltb-false}
use mathlib.Core.Option.{none}
use lib.ListN.{drop_of_length-le}
use Rattle.pattern.specs.declared.Pattern.{Pattern}
use Rattle.pattern.specs.declared.Refusal.{Refusal}
use Rattle.pattern_text.specs.Bytes.{Bytes}
use Rattle.pattern_text.specs.Text.{Answer, lines_of, read_lines, read_of}
use Rattle.pattern_lines.specs.Turn.{line_turn}
use Rattle.pattern_read.specs.Reading.{reading_of, read_as, read_numbers}
use Rattle.pattern_read.proofs.Numbers.{reading-as}
use Rattle.pattern_read.proofs.Walking.{Started, started, not_started, Walked, walked, not_walked, rest_at, no_place_lem, some_place}
use Rattle.pattern_read.proofs.read.Goals as goal
use Rattle.pattern_read.proofs.read.Goals.{After-first_line, After-further_line, After-loop-reader}

-- the numbers follow from the answer
pub record Promised (t : Bytes) (r : Result Pattern Refusal) : Type 0 where
  value : r ≡ reading_of (read_of t)
  numbers : read_as r ≡ read_numbers t

promised : (t : Bytes) {a : Answer} → read_of t ≡ a → Promised t (reading_of a)
promised t e = record { value = ap reading_of (sym e); numbers = ap (λ x. read_as (reading_of x)) (sym e) ∙ reading-as (read_of t) }

short : (t : Bytes) → length t ≤ 8_192 → read_of t ≡ read_lines none (lines_of t)
unfolding read_of
short t h = rw (le-ltb 8_192 (length t) h) refl

inside : (t : Bytes) (at : ℕ) → at < length t → drop at t ≡ [] → ⊥
inside t at h e = omega (arith, ap length e, length-drop at t)

pub returns-then-text-gt8192 : goal.returns-then-text-gt8192
unfolding read_of
returns-then-text-gt8192 c = rw (lt-ltb 8_192 (length c.args.text.now) c.if-text-gt8192.true) (record { value = refl; result_value = refl })

-- ---- the first line

all_left : (c : After-first_line) → c.left.result.now ≡ c.args.text.now
all_left c = c.left.ensures ∙ rw (c.new-reader.ensures.1, c.new-reader.ensures.0) refl

pub returns-in_err-pattern : goal.returns-in_err-pattern
returns-in_err-pattern c =
    let t = c.args.text.now in
    let p = err_from_is_err_and c.from_residual.result c.from_residual.ensures.1 in
    let left = all_left (goal.at.returns-in_err-pattern c).After-first_line in
    let k = promised t (short t c.if-text-gt8192.false ∙ not_started t (rw left at c.in_err-pattern.ensures)) in
    rw (p.1, p.2) (record { value = k.value; result_value = k.numbers })

pub loop-reader-init : goal.loop-reader-init
loop-reader-init c =
    let t = c.args.text.now in
    let left = all_left (goal.at.loop-reader-init c).After-first_line in
    let lent : c.new-reader.result.text.now ≡ t = ap (λ x. x.now) c.new-reader.ensures.0 in
    let k : Started t c.in_ok-pattern.pattern c.in_ok-pattern.rest.now = started t (rw left at c.in_ok-pattern.ensures) in
    record { lent = ap (λ x. x.now) c.moved_to-reader.ensures.0 ∙ lent; stands = rw (c.moved_to-reader.ensures.1, lent, rest_at t 0 k.rest) k.stands }

-- ---- a further line

within : (c : After-further_line) → c.loop-reader.reader.at < length c.args.text.now
within c =
    let h = ltb-true _ _ (sym c.unread.ensures ∙ c.loop-reader-test.true) in
    omega (arith, ap length c.loop-reader.invariant.lent)

what_left : (c : After-further_line) → c.left-in-loop-reader.result.now ≡ drop c.loop-reader.reader.at c.args.text.now
what_left c = c.left-in-loop-reader.ensures ∙ ap (drop c.loop-reader.reader.at) c.loop-reader.invariant.lent

went : (c : After-further_line) {q : Pattern} {r : Bytes} → Ok r ≡ (line_turn c.loop-reader.pattern c.left-in-loop-reader.result.now).0 → q ≡ (line_turn c.loop-reader.pattern c.left-in-loop-reader.result.now).1
    → Walked (read_lines none (lines_of c.args.text.now)) q (drop c.loop-reader.reader.at c.args.text.now) r
went c e f =
    let left = what_left c in
    walked c.loop-reader.invariant.stands (inside _ _ (within c)) (rw left at e) (rw left at f)

pub returns-in_err-rest : goal.returns-in_err-rest
returns-in_err-rest c =
    let t = c.args.text.now in
    let p = err_from_is_err_and c.from_residual-in_err-rest.result c.from_residual-in_err-rest.ensures.1 in
    let a = (goal.at.returns-in_err-rest c).After-further_line in
    let left = what_left a in
    let k = promised t (short t c.if-text-gt8192.false ∙ not_walked c.loop-reader.invariant.stands (inside _ _ (within a)) (rw left at c.in_err-rest.ensures.left)) in
    rw (p.1, p.2) (record { value = k.value; result_value = k.numbers })

pub loop-reader-preserved : goal.loop-reader-preserved
loop-reader-preserved c =
    let k = went (goal.at.loop-reader-preserved c).After-further_line c.in_ok-rest.ensures.left c.in_ok-rest.ensures.pattern in
    let moved = c.moved_to-reader-in-loop-reader.ensures in
    record {
      lent = ap (λ x. x.now) moved.0 ∙ c.loop-reader.invariant.lent;
      stands = rw (moved.1, c.loop-reader.invariant.lent, rest_at c.args.text.now c.loop-reader.reader.at k.rest) k.stands;
    }

pub loop-reader-smaller : goal.loop-reader-smaller
loop-reader-smaller c =
    let a = (goal.at.loop-reader-smaller c).After-further_line in
    let k = went a c.in_ok-rest.ensures.left c.in_ok-rest.ensures.pattern in
    let shorter = k.rest.shorter in
    let before = within a in
    let lent = ap length c.loop-reader.invariant.lent in
    omega (arith, length-drop c.loop-reader.reader.at c.args.text.now)

-- ---- the end

end : (c : After-loop-reader) → drop c.loop-reader.reader.at c.args.text.now ≡ []
end c =
    let h = ltb-false _ _ (sym c.unread.ensures ∙ c.loop-reader-test.false) in
    let lent = ap length c.loop-reader.invariant.lent in
    drop_of_length-le c.args.text.now {i = c.loop-reader.reader.at} (omega arith)

pub returns-then-pattern-eq0 : goal.returns-then-pattern-eq0
returns-then-pattern-eq0 c =
    let t = c.args.text.now in
    let stands = rw (end (goal.at.returns-then-pattern-eq0 c).After-loop-reader) at c.loop-reader.invariant.stands in
    let k = promised t (short t c.if-text-gt8192.false ∙ no_place_lem stands c.if-pattern-eq0.true) in
    record { value = k.value; result_value = k.numbers }

pub returns : goal.returns
returns c =
    let t = c.args.text.now in
    let stands = rw (end (goal.at.returns c).After-loop-reader) at c.loop-reader.invariant.stands in
    let k = promised t (short t c.if-text-gt8192.false ∙ some_place stands c.if-pattern-eq0.false) in
    record { value = k.value; result_value = k.numbers }
