-- From what a step does to what it means: its bytes are the first of those due.
use Prim.Native.Nat.{ℕ, ◌+◌, ◌≤◌, ◌<◌, min}
use native.Mathlib.Omega.{arith}
use mathlib.Core.Path.{◌≡◌, sym, ap, subst, ◌∙◌}
use mathlib.Core.List.{List, ◌++◌, append-nil}
use mathlib.Core.Option.{none, some}
use mathlib.Core.Bool.{Bool, cond}
use borrow.Author.Tests.{eq-eqb, ne_eqb}
use lib.Dec.{eqb}
use lib.ListN.{length, take, get_or}
use lib.Seq.{take_all}
use lib.IntN.{ℤ}
use Rattle.pattern.specs.declared.Pattern.{Pattern}
use Rattle.pattern.proofs.SoundLaws.{parts}
use Rattle.pattern_text.specs.Bytes.{Bytes}
use Rattle.std.specs.Prelude.{IfSome}
use Rattle.std.specs.Borrow.{MutBor}
use Rattle.text_put.specs.declared.Writer.{Writer}
use Rattle.text_put.specs.Put.{Begins, Puts}
use Rattle.text_put.proofs.PutLaws.{put_whole, put-long, put-inside, put-text, put_rest}
use Rattle.monitor.specs.Feed.{feed_scores, feed_lengths}
use Rattle.best.specs.declared.Search.{Search}
use Rattle.best.specs.Search.{chosen_in}
use Rattle.best.proofs.Ends.{begins-inside}
use Rattle.pattern.specs.declared.Refusal.{Refusal}
use Rattle.watch_text.specs.Shown.{refused_text, heading, rows_past, best_text}
use Rattle.watch_steps.specs.declared.Stage.{Stage}
use Rattle.watch_steps.specs.declared.Stage.TheVariants.{Refused, Heading, Rows, Done}
use Rattle.watch_steps.specs.declared.Cursor.{Cursor}
use Rattle.watch_steps.specs.declared.Watch.{Watch}
use Rattle.watch_steps.specs.Watch.{book_of_text}
use Rattle.watch_steps.specs.Steps.{rows_due, due_for, steps_at, steps_left, moved_on, watch_at, chunk, next_chunk, Underway, Standing, StandingAt, Stepped, StepPut, ChunkPut}
use Rattle.watch_steps.proofs.Chunks.{room, room-on, lengths-low, due_on, ticks-on, underway_on}
use Rattle.watch_steps.proofs.Moved.{moved, moved-end, last_due, last-choice}

-- lines put with a writer at the front of a buffer that has room for them
pub stepped : {t : Bytes} {w : Watch} {first second first' second' : List ℤ} {lent : MutBor (List ℕ)} {o o' : Writer} {after : Bytes} {w' : Watch}
    → Begins lent o → 4096 ≤ length lent.now → StepPut t w first second o first' second' o' w' → (lent.ghost_name ≡ o'.text.ghost_name → after ≡ o'.text.now)
    → Stepped t w first second lent.now first' second' after (record { watch = w'; length = o'.at })
stepped {t} {w} {first} {second} {first'} {second'} {lent} {o} {o'} {after} {w'} b wide h back =
    let p = put_whole b h.put back in
    let few = h.few in
    let whole : take o'.at after ≡ h.lines = put-text p ∙ take_all (length lent.now) h.lines (omega arith) in
    record {
      standing = h.standing;
      shown = h.due ∙ ap (λ (x : Bytes). x ++ due_for t w') (sym whole);
      within = omega (arith, put-inside p (omega arith), put-long p);
      fewer = h.fewer;
      first_holds = h.first_holds;
      second_holds = h.second_holds;
      past = put_rest p;
    }

-- a fixed line, at which no chunk is fed
pub line_put : (t : Bytes) (w w' : Watch) (xs : Bytes) (first second : List ℤ) {o o' : Writer}
    → Puts o o' xs → length xs ≤ 128 → Standing t w' first second → due_for t w ≡ xs ++ due_for t w' → steps_left t w' < steps_left t w → next_chunk t w ≡ none
    → StepPut t w first second o first second o' w'
line_put t w w' xs first second put low standing due fewer none-fed =
    record { lines = xs; put = put; few = omega arith; due = due; standing = standing; fewer = fewer; first_holds = rw none-fed; second_holds = rw none-fed }

-- ---- at the rows: k is where the program stands once it looked for the next piece

module _ {p : Pattern} {t : Bytes} {k₀ : Cursor} {s : Search} {first second : List ℤ} (u₀ : Underway p t k₀ s first second) {k : Cursor} (on : k ≡ moved_on t k₀) where
  abbrev n : ℕ
  n = s.state.ticks

  abbrev B : List (List ℤ)
  B = book_of_text p.channels t

  abbrev d : ℕ
  d = min k.left 64

  abbrev w : Watch
  w = watch_at Rows p k₀ s

  u : Underway p t k s first second
  u = rw on (moved p t k₀ s first second u₀)

  ends : k.left ≡ 0 → length t ≤ k.at
  ends = rw on (moved-end p t k₀ s first second u₀)

  fed_by : {x : Bool} → eqb k.left 0 ≡ x → next_chunk t w ≡ cond x none (some (chunk p k))
  fed_by e = rw (← on, e)

  -- at the end of the text
  module _ (e : k.left ≡ 0) where
    pub begins : IfSome s.choice (λ f. f.length ≤ f.end)
    begins = begins-inside p u.sound B s.choice (last-choice p t k s first second u e (ends e))

    pub last_put : {o o' : Writer} → Puts o o' (best_text (chosen_in s.choice)) → length (best_text (chosen_in s.choice)) ≤ 128
        → StepPut t w first second o first second o' (watch_at Done p k₀ s)
    last_put put low =
        line_put t w (watch_at Done p k₀ s) (best_text (chosen_in s.choice)) first second put low tt
        (last_due p t k s first second u e (ends e) ∙ ap best_text (sym (last-choice p t k s first second u e (ends e))) ∙ sym (append-nil (best_text (chosen_in s.choice))))
        (omega arith)
        (fed_by (eq-eqb k.left 0 e))

  -- a chunk
  module _ (more : 0 < k.left) where
    pub few-channels : p.channels ≤ 8
    few-channels = (parts p u.sound).few_channels

    pub chunk-room : n + d ≤ 2147483647
    chunk-room = room-on p t k s first second u more d (omega arith) (omega arith) (omega arith)

    pub chunk-lengths : (i : ℕ) → i < d → get_or (feed_lengths p s.state first second (chunk p k)) i 0 ≤ n + i + 1
    chunk-lengths = lengths-low p t k s first second u more d (omega arith) (omega arith) (omega arith)

    fed : next_chunk t w ≡ some (chunk p k)
    fed = fed_by (ne_eqb k.left 0 (λ e. omega arith))

    pub chunk_put : {o o' : Writer} {first' second' : List ℤ} {r : Watch} → ChunkPut (watch_at Rows p k s) first second o first' second' o' r
        → StepPut t w first second o first' second' o' r
    chunk_put {o} {o'} {first'} {second'} {r} h =
        let q = r.search in
        let xs : Bytes = rows_past n (feed_scores p s.state first second (chunk p k)) (feed_lengths p s.state first second (chunk p k)) d in
        let e = h.watch in
        let ticks = ticks-on p t k s first second u more d (omega arith) (omega arith) (omega arith) q first' second' h.state h.choice h.first h.second in
        let due = due_on p t k s first second u more d (omega arith) (omega arith) (omega arith) in
        let few = h.few in
        record {
          lines = xs;
          put = h.put;
          few = omega arith;
          due = due ∙ ap (λ (m : ℕ). xs ++ rows_due p B m) (sym ticks) ∙ ap (λ (x : Watch). xs ++ due_for t x) (sym e);
          standing =
              subst (λ (x : Watch). Standing t x first' second') (sym e)
              (underway_on p t k s first second u more d (omega arith) (omega arith) (omega arith) q first' second' h.state h.choice h.first h.second);
          fewer =
              subst (λ (x : Watch). steps_left t x < steps_at Rows B n) (sym e)
              (let a = room p t k s first second u in omega arith);
          first_holds = h.first ∙ rw fed;
          second_holds = h.second ∙ rw fed;
        }

-- ---- a step by its stage

module _ (t : Bytes) (w : Watch) (first second : List ℤ) where
  pub underway : w.stage ≡ Rows → Standing t w first second → Underway w.pattern t w.cursor w.search first second
  underway e h = subst (λ (q : Stage). StandingAt q t w first second) e h

  module _ {o o' : Writer} where
    pub refused_put : (cause : Refusal) → w.stage ≡ Refused cause → Puts o o' (refused_text cause) → length (refused_text cause) ≤ 128
        → StepPut t w first second o first second o' (watch_at Done w.pattern w.cursor w.search)
    refused_put cause e put low =
        line_put t w (watch_at Done w.pattern w.cursor w.search) (refused_text cause) first second put low tt
        (rw e (sym (append-nil (refused_text cause)))) (rw e (omega arith)) (rw e)

    pub heading_put : w.stage ≡ Heading → Standing t w first second → Puts o o' heading
        → StepPut t w first second o first second o' (watch_at Rows w.pattern w.cursor w.search)
    unfolding heading
    heading_put e s put =
        line_put t w (watch_at Rows w.pattern w.cursor w.search) heading first second put (omega arith)
        (subst (λ (q : Stage). StandingAt q t w first second) e s) (rw e) (rw e (omega arith)) (rw e)
