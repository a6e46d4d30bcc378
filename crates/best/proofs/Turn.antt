-- One turn of the code through a piece: some ticks more of a sound record.
use Prim.Native.Nat.{ℕ, ◌+◌, ◌-◌, ◌*◌, ◌≤◌, ◌<◌, min}
use native.Mathlib.Omega.{arith}
use mathlib.Core.Path.{◌≡◌, sym, ap, subst, ◌∙◌}
use mathlib.Core.List.{List}
use mathlib.Core.Option.{Option, none}
use mathlib.Core.Bool.{true}
use lib.ListN.{length, take, drop, get_or, length-take, length-drop}
use lib.IntN.{ℤ, pos}
use Rattle.pattern.specs.declared.Pattern.{Pattern}
use Rattle.pattern.specs.Sound.{sound_of}
use Rattle.pattern.specs.Cells.{cells_needed}
use Rattle.record.specs.Record.{Book, sample_at, total, value_in_range, record_sound, book_of}
use Rattle.record.proofs.ListLaws.{all_take, all_drop}
use Rattle.record.proofs.RecordLaws.{parts, total-more, sample-within}
use Rattle.book.specs.View as book
use Rattle.monitor.specs.declared.State.{State}
use Rattle.monitor.specs.Cells.{written}
use Rattle.monitor.specs.Open.{marks}
use Rattle.monitor.specs.Feed.{Call, feed_refusal, feed_state, feed_first, feed_second, feed_scores, feed_lengths}
use Rattle.monitor.proofs.Written.{written-length, written_again}
use Rattle.monitor.proofs.Between.{Fine}
use Rattle.best.specs.declared.Search.{Search}
use Rattle.best.specs.Best.{Chosen, chosen_to, score_at, length_at}
use Rattle.best.specs.Search.{table_to, state_to, chosen_in, chosen_past, chunk_of, SearchedTo, Fit}
use Rattle.best.proofs.Choices.{past_is}
use Rattle.best.proofs.Pieces.{fine-tick, front, rest, split, front_long, start-low}
use Rattle.best.proofs.Chunk.{whole, given, state-after, first-after, second-after, score-after, length-after}

-- ---- a chunk

-- what the code finds once it fed the chunk
pub record Turned (p : Pattern) (B : Book) (q : State) (o : Option Chosen) (t u : List ℤ) (c : Call) (n : ℕ) : Type 0 where
  pub accepted : feed_refusal p q t u c ≡ none
  pub state : feed_state p q t u c ≡ state_to p B (n + c.duration)
  pub choice : chosen_past p o q.ticks (feed_scores p q t u c) (feed_lengths p q t u c) c.duration ≡ chosen_to p B (n + c.duration)
  pub first : feed_first p q t u c ≡ written p (table_to p B (n + c.duration)) t
  pub second : feed_second p q t u c ≡ marks p u
  pub reports : (i : ℕ) → i < c.duration
      → (get_or (feed_scores p q t u c) i (pos 0) ≡ score_at p B (n + i + 1)) × (get_or (feed_lengths p q t u c) i 0 ≡ length_at p B (n + i + 1))

module _ (p : Pattern) (sound : sound_of p ≡ true) (b : Book) (c : Call) (after : Book) (value : Fine p c.values)
    (some-ticks : 1 ≤ c.duration) (short : c.duration ≤ 65535) (scores : c.duration ≤ length c.scores) (lengths : c.duration ≤ length c.lengths)
    (t u : List ℤ) (first_long : cells_needed p ≤ length t) (second_long : cells_needed p ≤ length u) (q : State) (o : Option Chosen) where
  -- what holds of the book before the chunk, and what then holds after it
  abbrev pub Step : Book → ℕ → Type 0
  Step B n =
      n + c.duration ≤ 2147483647 → ((i : ℕ) → i < n + c.duration → Fine p (book.sample_at B i)) → q ≡ state_to p B n → o ≡ chosen_to p B n
      → t ≡ written p (table_to p B n) t → Turned p B q o t u c n

  base : Step (whole p sound b c after) (length b)
  base few fine state chosen first =
      let W = whole p sound b c after in
      subst (λ (r : State). Turned p W r o t u c (length b)) (sym state)
      (record {
        accepted = given p sound b c after few fine value some-ticks short scores lengths t u first_long second_long first;
        state = state-after p sound b c after few fine value some-ticks short scores lengths t u first_long second_long first;
        choice = past_is p W (length b) _ _ o c.duration chosen told;
        reports = told;
        first = first-after p sound b c after few fine value some-ticks short scores lengths t u first_long second_long first;
        second = second-after p sound b c after few fine value some-ticks short scores lengths t u first_long second_long first;
      })
    where
      told : (j : ℕ) → j < c.duration
          → (get_or (feed_scores p (state_to p (whole p sound b c after) (length b)) t u c) j (pos 0) ≡ score_at p (whole p sound b c after) (length b + j + 1))
          × (get_or (feed_lengths p (state_to p (whole p sound b c after) (length b)) t u c) j 0 ≡ length_at p (whole p sound b c after) (length b + j + 1))
      told j l = (
        score-after p sound b c after few fine value some-ticks short scores lengths t u first_long second_long first j l,
        length-after p sound b c after few fine value some-ticks short scores lengths t u first_long second_long first j l,
      )

  pub stepped : (B : Book) (n : ℕ) → whole p sound b c after ≡ B → length b ≡ n → Step B n
  stepped B n is long = subst (Step B) long (subst (λ (w : Book). Step w (length b)) is base)

-- ---- a piece of a record

module _ (p : Pattern) (sound : sound_of p ≡ true) (ds : List ℕ) (vs : List ℤ) (fits : record_sound p.channels ds vs ≡ true) where
  abbrev B : Book
  B = book_of p.channels ds vs

  fine : (i : ℕ) → i < total ds → Fine p (book.sample_at B i)
  unfolding book_of
  fine = let k = parts p.channels ds vs fits in fine-tick p.channels ds vs k.agree k.values

  module _ (i gone d : ℕ) (inside : i < length ds) (room : gone + d ≤ get_or ds i 0) (some-ticks : 1 ≤ d) (few : d ≤ 64) where
    abbrev n : ℕ
    n = total (take i ds) + gone

    within : n + d ≤ total ds
    within =
        let a = total-more ds i inside in
        let l = start-low p p.channels ds vs (i + 1) in
        omega arith

    pub sample-fine : Fine p (sample_at p.channels vs i)
    unfolding sample_at
    sample-fine =
        let k = parts p.channels ds vs fits in
        let g = k.agree in
        let w = sample-within i (length ds) p.channels inside in
        let a = length-take p.channels (drop (i * p.channels) vs) in
        let b = length-drop (i * p.channels) vs in
        (omega arith, all_take value_in_range p.channels (drop (i * p.channels) vs) (all_drop value_in_range (i * p.channels) vs k.values))

    pub fed : (q : State) (o : Option Chosen) (t u : List ℤ) → cells_needed p ≤ length t → cells_needed p ≤ length u
        → q ≡ state_to p B n → o ≡ chosen_to p B n → t ≡ written p (table_to p B n) t → Turned p B q o t u (chunk_of d (sample_at p.channels vs i)) n
    fed q o t u first_long second_long state chosen first =
        stepped p sound (front p p.channels ds vs i gone) (chunk_of d (sample_at p.channels vs i)) (rest p p.channels ds vs i (gone + d)) sample-fine
        some-ticks (omega arith) few few t u first_long second_long q o B n
        (split p p.channels ds vs i gone d inside room) (front_long p p.channels ds vs i gone)
        (let k = (parts p.channels ds vs fits).short in let w = within in omega arith)
        (λ j l. fine j (let w = within in omega arith)) state chosen first

  -- a turn of the loop over the first `count` ticks of a piece: `left` of them are left, and d more are fed
  module _ (i count left d : ℕ) (inside : i < length ds) (all : count ≤ get_or ds i 0) (low : left ≤ count) (more : 0 < left) (is : d ≡ min left 64)
      (s : Search) (t t₀ : List ℤ) (first_long : cells_needed p ≤ length t₀) where
    abbrev at : ℕ → ℕ
    at k = total (take i ds) + (count - k)

    abbrev c : Call
    c = chunk_of d (sample_at p.channels vs i)

    module _ (searched : SearchedTo p B (at left) s) (first : t ≡ written p (table_to p B (at left)) t₀) where
      long-first : length t ≡ length t₀
      long-first = ap length first ∙ written-length p sound (table_to p B (at left)) t₀ first_long

      turned : Turned p B s.state (chosen_in s.choice) t t c (at left)
      turned =
          fed i (count - left) d inside (omega arith) (omega arith) (omega arith) s.state (chosen_in s.choice) t t
          (let e = long-first in omega arith) (let e = long-first in omega arith) searched.0 searched.1
          (first ∙ sym (written_again p (table_to p B (at left)) (table_to p B (at left)) t₀) ∙ ap (written p (table_to p B (at left))) (sym first))

      on : at left + d ≡ at (left - d)
      on = omega arith

      state-on : feed_state p s.state t t c ≡ state_to p B (at (left - d))
      state-on = turned.state ∙ ap (state_to p B) on

      choice-on : chosen_past p (chosen_in s.choice) s.state.ticks (feed_scores p s.state t t c) (feed_lengths p s.state t t c) d ≡ chosen_to p B (at (left - d))
      choice-on = turned.choice ∙ ap (chosen_to p B) on

      first_on : feed_first p s.state t t c ≡ written p (table_to p B (at (left - d))) t₀
      first_on =
          turned.first ∙ ap (written p (table_to p B (at left + d))) first
          ∙ written_again p (table_to p B (at left + d)) (table_to p B (at left)) t₀
          ∙ ap (λ (n : ℕ). written p (table_to p B n) t₀) on

      pub accepted-on : feed_refusal p s.state t t c ≡ none
      accepted-on = turned.accepted

      -- what the turn finds
      pub onward :
          ((feed_state p s.state t t c ≡ state_to p B (at (left - d)))
          × (chosen_past p (chosen_in s.choice) s.state.ticks (feed_scores p s.state t t c) (feed_lengths p s.state t t c) d ≡ chosen_to p B (at (left - d))))
          × (feed_first p s.state t t c ≡ written p (table_to p B (at (left - d))) t₀)
      onward = ((state-on, choice-on), first_on)

      pub room-on : s.state.ticks + d ≤ 2147483647
      room-on =
          let e = ap (λ (q : State). q.ticks) searched.0 in
          let a = total-more ds i inside in
          let l = start-low p p.channels ds vs (i + 1) in
          let k = (parts p.channels ds vs fits).short in
          omega arith

-- ---- from piece to piece

module _ (p : Pattern) (ds : List ℕ) (vs : List ℤ) (i j : ℕ) (s r : Search) (t t' : List ℤ) (k : Fit p ds vs i s t) where
  pub fit_on : SearchedTo p (book_of p.channels ds vs) (total (take j ds)) r → t' ≡ written p (table_to p (book_of p.channels ds vs) (total (take j ds))) t
      → Fit p ds vs j r t'
  fit_on searched first =
      let U = table_to p (book_of p.channels ds vs) (total (take j ds)) in
      record {
        sound = k.sound;
        fits = k.fits;
        searched = searched;
        first_long = let e = ap length first ∙ written-length p k.sound U t k.first_long in let l = k.first_long in omega arith;
        first = first ∙ sym (written_again p U U t) ∙ ap (written p U) (sym first);
      }
