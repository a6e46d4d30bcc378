-- All steps together: step by step, the bytes printed and those still due are what is to be printed.
use Prim.Native.Nat.{ℕ, ◌+◌, ◌≤◌, ◌<◌}
use native.Mathlib.Omega.{arith}
use mathlib.Core.Path.{◌≡◌, refl, sym, ap, subst, ◌∙◌}
use mathlib.Core.List.{List, [], ◌∷◌, ◌++◌, append_assoc, append-nil}
use mathlib.Core.Option.{Option, none, some}
use mathlib.Core.Bool.{Bool, true, false, cond}
use borrow.Author.Tests.{ltb-true, ltb-false}
use lib.Dec.{ltb}
use lib.ListN.{length, take}
use lib.IntN.{ℤ}
use Rattle.pattern.specs.declared.Pattern.{Pattern}
use Rattle.pattern.specs.declared.Refusal.{Refusal}
use Rattle.pattern.specs.declared.Refusal.TheVariants.{TableTooShort}
use Rattle.pattern.specs.Sound.{sound_of}
use Rattle.pattern.specs.Cells.{cells_needed}
use Rattle.pattern_text.specs.Bytes.{Bytes, bytes}
use Rattle.pattern_text.specs.Numeral.{decimal, decimal_f}
use Rattle.pattern_text.specs.Text.{Answer, read_of}
use Rattle.pattern_text.proofs.Theorems.{sound_means_read}
use Rattle.record.specs.Record.{Book}
use Rattle.watch_text.specs.Shown.{feed, refused_text, shown_for}
use Rattle.watch_text.specs.Claims.{Shows}
use Rattle.watch_text.proofs.Right.{shown-right}
use Rattle.watch_steps.specs.declared.Watch.{Watch}
use Rattle.watch_steps.specs.declared.Stage.{Stage}
use Rattle.watch_steps.specs.declared.Stage.TheVariants.{Refused, Heading, Rows, Done}
use Rattle.watch_steps.specs.Watch.{book_of_text, tables_refusal, or_cause, unless_cause, answered_with, watch_of}
use Rattle.watch_steps.specs.Steps.{is_done, due_at, due_for, steps_at, steps_left, Standing}
use Rattle.watch_start.specs.Claims.{Stand, Started, Made, stands, Follow, lead_to, printed, StepsPrint, PrintedSoFar, StepsEnd, StartRefusedAltersNothing, LinesRight, RefusalsAlone}
use Rattle.watch_start.proofs.Opening.{start_due}

-- ---- the steps

-- once nothing is to come, nothing is due
none_due : (g : Stage) (p : Pattern) (b : Book) (n : ℕ) → is_done g ≡ true → due_at g p b n ≡ []
none_due (Refused r) p b n e = let z : ◌≡◌ {A = ℕ} 0 1 = cc in absurd (omega arith)
none_due Heading p b n e = let z : ◌≡◌ {A = ℕ} 0 1 = cc in absurd (omega arith)
none_due Rows p b n e = let z : ◌≡◌ {A = ℕ} 0 1 = cc in absurd (omega arith)
none_due Done p b n e = refl

few-steps : (g : Stage) (b : Book) (n : ℕ) → steps_at g b n ≤ 2 + length b
few-steps (Refused r) b n = omega arith
few-steps Heading b n = omega arith
few-steps Rows b n = omega arith
few-steps Done b n = omega arith

module _ (t : Bytes) where
  so_far : (ms : List Made) (s : Stand) → Follow t s ms → due_for t s.watch ≡ printed ms ++ due_for t (lead_to s ms).watch
  unfolding Follow lead_to printed
  so_far [] s h = refl
  so_far (m ∷ ms) s h =
      h.1.shown
      ∙ ap (λ (x : Bytes). take m.step.length m.out ++ x) (so_far ms (stands m) h.2)
      ∙ sym (append_assoc (take m.step.length m.out) (printed ms) (due_for t (lead_to (stands m) ms).watch))

  few : (ms : List Made) (s : Stand) → Follow t s ms → length ms ≤ steps_left t s.watch
  unfolding Follow
  few [] s h = omega arith
  few (m ∷ ms) s h = let a = few ms (stands m) h.2 in let b = h.1.fewer in omega arith

  go_on_lem : (ms : List Made) (s : Stand) → Standing t s.watch s.first s.second → Follow t s ms
      → Standing t (lead_to s ms).watch (lead_to s ms).first (lead_to s ms).second
  unfolding Follow lead_to
  go_on_lem [] s k h = k
  go_on_lem (m ∷ ms) s k h = go_on_lem ms (stands m) h.1.standing h.2

due : {pattern text : Bytes} {first second : List ℤ} {s : Stand} → Started pattern text first second s → due_for text s.watch ≡ watch_of pattern text
due {pattern} {text} k = ap (due_for text) k.watch ∙ start_due (read_of pattern) text

pub printed_so_far : PrintedSoFar
printed_so_far pattern text first second s k ms h = sym (due k) ∙ so_far text ms s h

pub steps_print : StepsPrint
steps_print pattern text first second s k ms h done =
    let w = (lead_to s ms).watch in
    sym (printed_so_far pattern text first second s k ms h
    ∙ ap (λ (x : Bytes). printed ms ++ x) (none_due w.stage w.pattern (book_of_text w.pattern.channels text) w.search.state.ticks done)
    ∙ append-nil (printed ms))

pub steps-end : StepsEnd
steps-end pattern text first second s k ms h = (
  go_on_lem text ms s k.standing h,
  (let a = few text ms s h in
      let b = few-steps s.watch.stage (book_of_text s.watch.pattern.channels text) s.watch.search.state.ticks in
      omega arith),
)

-- ---- a refusal

-- there is one step, and it leaves the tables alone
refused_steps : (t : Bytes) (r : Refusal) (ms : List Made) (s : Stand) → s.watch.stage ≡ Refused r → Follow t s ms → ((lead_to s ms).first ≡ s.first) × ((lead_to s ms).second ≡ s.second)
unfolding Follow lead_to
refused_steps t r [] s e h = (refl, refl)
refused_steps t r (m ∷ []) s e h = (rw e at h.1.first_holds, rw e at h.1.second_holds)
refused_steps t r (m ∷ n ∷ ms) s e h = let a = rw e at (few t (m ∷ n ∷ ms) s h) in absurd (omega arith)

pub start_refused_alters_nothing : StartRefusedAltersNothing
start_refused_alters_nothing pattern text first second s k r cause ms h =
    let o = refused_steps text r ms s (ap (λ (w : Watch). w.stage) k.watch ∙ rw cause) h in
    (o.0 ∙ k.first_holds ∙ rw cause, o.1 ∙ k.second_holds ∙ rw cause)

-- ---- what is printed

-- the tables, by their cells
fitting : (p : Pattern) → cells_needed p ≤ 2_048 → tables_refusal p ≡ none
fitting p h = by (ltb 2_048 (cells_needed p)) refl
  where
    by : (x : Bool) → ltb 2_048 (cells_needed p) ≡ x → cond x (some TableTooShort) none ≡ none
    by true e = let l = ltb-true 2_048 (cells_needed p) e in absurd (omega arith)
    by false e = refl

too_short : (p : Pattern) → 2_048 < cells_needed p → tables_refusal p ≡ some TableTooShort
too_short p h = by (ltb 2_048 (cells_needed p)) refl
  where
    by : (x : Bool) → ltb 2_048 (cells_needed p) ≡ x → cond x (some TableTooShort) none ≡ some TableTooShort
    by true e = refl
    by false e = let l = ltb-false 2_048 (cells_needed p) e in absurd (omega arith)

pub lines_right : LinesRight
lines_right pattern text p reads fits low =
    let sound : sound_of p ≡ true = (sound_means_read p).1 (pattern, reads) in
    let b = book_of_text p.channels text in
    let is : watch_of pattern text ≡ shown_for p b =
    ap (λ (a : Answer). answered_with a text) reads
    ∙ ap (λ (o : Option Refusal). unless_cause (or_cause o (tables_refusal p)) (shown_for p b)) fits
    ∙ ap (λ (o : Option Refusal). unless_cause o (shown_for p b)) (fitting p low) in
    subst (Shows p b) (sym is) (shown-right p sound b)

eleven : refused_text TableTooShort ≡ bytes "refused 11" ++ feed
unfolding refused_text decimal decimal_f
eleven = refl

pub refusals_alone : RefusalsAlone
refusals_alone pattern text = (
  λ r reads. ap (λ (a : Answer). answered_with a text) reads,
  λ p r reads given.
      ap (λ (a : Answer). answered_with a text) reads
      ∙ ap (λ (o : Option Refusal). unless_cause (or_cause o (tables_refusal p)) (shown_for p (book_of_text p.channels text))) given,
  λ p reads fits short.
      ap (λ (a : Answer). answered_with a text) reads
      ∙ ap (λ (o : Option Refusal). unless_cause (or_cause o (tables_refusal p)) (shown_for p (book_of_text p.channels text))) fits
      ∙ ap (λ (o : Option Refusal). unless_cause o (shown_for p (book_of_text p.channels text))) (too_short p short)
      ∙ eleven,
)
