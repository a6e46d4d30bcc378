-- A chunk of the present piece: what is fed, what is put, and where the program stands then.
use Prim.Native.Nat.{ℕ, ◌+◌, ◌-◌, ◌≤◌, ◌<◌}
use native.Mathlib.Omega.{arith}
use mathlib.Core.Path.{◌≡◌, sym, ap, subst, ◌∙◌}
use mathlib.Core.Logic.{inr, ⊎_elim}
use mathlib.Core.List.{List, [], ◌∷◌, ◌++◌, append_assoc, map-append, map}
use mathlib.Core.Bool.{true}
use lib.ListN.{length, take, get_or}
use lib.IntN.{ℤ, pos}
use Rattle.pattern.specs.declared.Pattern.{Pattern}
use Rattle.pattern.proofs.SoundLaws as pattern
use Rattle.pattern_text.specs.Bytes.{Bytes}
use Rattle.pattern_text.specs.Text.{pad}
use Rattle.pattern_text.proofs.Slots.{take-pad}
use Rattle.record.specs.Record.{Book, book_of, sample_at, total, record_sound}
use Rattle.record.proofs.RecordLaws.{parts, total-append}
use Rattle.record_text.specs.Piece.{RawPiece, values_in}
use Rattle.record_text.specs.Text.{durations_of, values_of}
use Rattle.monitor.specs.declared.State.{State}
use Rattle.monitor.specs.Cells.{written}
use Rattle.monitor.specs.Open.{marks}
use Rattle.monitor.specs.Feed.{Call, feed_state, feed_first, feed_second, feed_scores, feed_lengths}
use Rattle.monitor.proofs.Written.{written-length, marks-length, written_again, marks_again}
use Rattle.best.specs.declared.Search.{Search}
use Rattle.best.specs.Best.{chosen_to, chosen_of}
use Rattle.best.specs.Search.{table_to, state_to, chosen_in, chosen_past, chunk_of}
use Rattle.best.proofs.Ends.{report-inside}
use Rattle.best.proofs.Pieces.{book-long}
use Rattle.best.proofs.Turn.{Turned, fed, sample-fine}
use Rattle.watch_text.specs.Shown.{rows_from, rows_past, best_text}
use Rattle.watch_text.proofs.Rows.{rows_split, past_are}
use Rattle.watch_steps.specs.declared.Cursor.{Cursor}
use Rattle.watch_steps.specs.Watch.{book_of_text}
use Rattle.watch_steps.specs.Steps.{rows_due, Inside, Underway}
use Rattle.watch_steps.proofs.Pieces.{book-is, record_sound_lem, inside, duration-is, sample-is, start_is, ticks-more}

module _ (p : Pattern) (t : Bytes) (k : Cursor) (s : Search) (first second : List ℤ) (u : Underway p t k s first second) where
  abbrev rs : List RawPiece
  rs = u.position.read ++ u.position.further

  abbrev n : ℕ
  n = s.state.ticks

  abbrev pub B : Book
  B = book_of_text p.channels t

  few-channels : p.channels ≤ 8
  few-channels = (pattern.parts p u.sound).few_channels

  book : B ≡ book_of p.channels (durations_of rs) (values_of rs)
  book = book-is p.channels t rs u.position.reads

  rules : record_sound p.channels (durations_of rs) (values_of rs) ≡ true
  rules = record_sound_lem p.channels t rs u.position.reads u.fits

  pub long : length B ≡ total (durations_of rs)
  long = ap length book ∙ book-long p p.channels (durations_of rs) (values_of rs)

  pub short : length B ≤ 2147483647
  short = let k = (parts p.channels (durations_of rs) (values_of rs) rules).short in let l = long in omega arith

  -- the ticks of the pieces read lie in the book
  pub ticks-read : total (durations_of rs) ≡ total (durations_of u.position.read) + total (durations_of u.position.further)
  unfolding durations_of
  ticks-read =
      ap total (map-append (λ x. x.duration) u.position.read u.position.further)
      ∙ total-append (map (λ x. x.duration) u.position.read) (map (λ x. x.duration) u.position.further)

  pub room : n + k.left ≤ length B
  room = let a = u.position.ticks in let b = ticks-read in let c = long in omega arith

  -- ---- some ticks are left of the present piece

  module _ (more : 0 < k.left) where
    now : Inside u.position.read k
    now = ⊎_elim (λ (e : k.left ≡ 0). absurd (omega arith)) (λ x. x) u.position.now

    abbrev earlier : List RawPiece
    earlier = now.earlier

    abbrev r : RawPiece
    r = now.present

    abbrev i : ℕ
    i = length earlier

    is : rs ≡ earlier ++ (r ∷ u.position.further)
    is = ap (λ (q : List RawPiece). q ++ u.position.further) now.is ∙ append_assoc earlier (r ∷ []) u.position.further

    ds_at : get_or (durations_of rs) i 0 ≡ r.duration
    ds_at = duration-is p.channels t rs u.position.reads u.fits earlier r u.position.further is

    vs-at : sample_at p.channels (values_of rs) i ≡ values_in r
    vs-at = sample-is p.channels t rs u.position.reads u.fits earlier r u.position.further is

    within : i < length (durations_of rs)
    within = inside p.channels t rs u.position.reads u.fits earlier r u.position.further is

    at-is : n ≡ total (take i (durations_of rs)) + (r.duration - k.left)
    at-is =
        let a = u.position.ticks in
        let b = ap (λ (q : List RawPiece). total (durations_of q)) now.is ∙ ticks-more earlier r in
        let c = start_is p.channels t rs u.position.reads u.fits earlier r u.position.further is in
        let d = now.low in
        omega arith

    module _ (d : ℕ) (some-ticks : 1 ≤ d) (low : d ≤ k.left) (few : d ≤ 64) where
      open_ticks : (r.duration - k.left) + d ≤ get_or (durations_of rs) i 0
      open_ticks = let a = ds_at in let b = now.low in omega arith

      values : take p.channels k.values ≡ sample_at p.channels (values_of rs) i
      values =
          let f = sample-fine p u.sound (durations_of rs) (values_of rs) rules i (r.duration - k.left) d within open_ticks some-ticks few in
          let l : length (values_in r) ≡ p.channels = ap length (sym vs-at) ∙ f.0 in
          ap (take p.channels) now.values ∙ ap (λ (m : ℕ). take m (pad 8 (pos 0) (values_in r))) (sym l) ∙ take-pad 8 (pos 0) (values_in r) ∙ sym vs-at

      abbrev c : Call
      c = chunk_of d (take p.channels k.values)

      abbrev Q : Book → Call → ℕ → Type 0
      Q w e m =
          s.state ≡ state_to p w m → chosen_in s.choice ≡ chosen_to p w m → first ≡ written p (table_to p w m) first
          → Turned p w s.state (chosen_in s.choice) first second e m

      turned : Turned p B s.state (chosen_in s.choice) first second c n
      turned =
          subst (λ (w : Book). Q w c n) (sym book)
          (subst (λ (m : ℕ). Q (book_of p.channels (durations_of rs) (values_of rs)) c m) (sym at-is)
          (subst (λ (e : List ℤ). Q (book_of p.channels (durations_of rs) (values_of rs)) (chunk_of d e) (total (take i (durations_of rs)) + (r.duration - k.left))) (sym values)
          (fed p u.sound (durations_of rs) (values_of rs) rules i (r.duration - k.left) d within open_ticks some-ticks few s.state (chosen_in s.choice) first second u.first_long u.second_long)))
          u.searched.0 u.searched.1 u.first_holds

      pub room-on : n + d ≤ 2147483647
      room-on = let a = room in let b = short in omega arith

      -- a reported run begins in the book
      pub lengths-low : (j : ℕ) → j < d → get_or (feed_lengths p s.state first second c) j 0 ≤ n + j + 1
      lengths-low j l =
          let e = (turned.reports j l).1 in
          let h = report-inside p u.sound B (n + j + 1) (let a = room in omega arith) in
          omega arith

      -- the lines that are put, and what is still due
      pub due_on : rows_due p B n ≡ rows_past n (feed_scores p s.state first second c) (feed_lengths p s.state first second c) d ++ rows_due p B (n + d)
      unfolding rows_due
      due_on =
          let e : length B - n ≡ d + (length B - (n + d)) = let a = room in omega arith in
          ap (λ (m : ℕ). rows_from p B n m ++ best_text (chosen_of p B)) e
          ∙ ap (λ (q : Bytes). q ++ best_text (chosen_of p B)) (rows_split p B n d (length B - (n + d)))
          ∙ append_assoc (rows_from p B n d) (rows_from p B (n + d) (length B - (n + d))) (best_text (chosen_of p B))
          ∙ ap (λ (q : Bytes). q ++ (rows_from p B (n + d) (length B - (n + d)) ++ best_text (chosen_of p B))) (sym (past_are p B n _ _ d turned.reports))

      -- where the program stands then
      module _ (s' : Search) (first' second' : List ℤ) (state : s'.state ≡ feed_state p s.state first second c)
          (choice : chosen_in s'.choice ≡ chosen_past p (chosen_in s.choice) n (feed_scores p s.state first second c) (feed_lengths p s.state first second c) d)
          (is-first : first' ≡ feed_first p s.state first second c) (is-second : second' ≡ feed_second p s.state first second c) where
        abbrev k' : Cursor
        k' = record { at = k.at; left = k.left - d; values = k.values }

        state-is : s'.state ≡ state_to p B (n + d)
        state-is = state ∙ turned.state

        pub ticks-on : s'.state.ticks ≡ n + d
        ticks-on = ap (λ (q : State). q.ticks) state-is

        abbrev U : ℕ → List ℤ
        U m = written p (table_to p B m) first

        first_is : first' ≡ written p (table_to p B (n + d)) first
        first_is = is-first ∙ turned.first

        second_is : second' ≡ marks p second
        second_is = is-second ∙ turned.second

        pub underway_on : Underway p t k' s' first' second'
        underway_on =
            record {
              sound = u.sound;
              fits = u.fits;
              position =
                  record {
                    read = u.position.read;
                    further = u.position.further;
                    reads = u.position.reads;
                    at = u.position.at;
                    ticks = let e = ticks-on in let a = u.position.ticks in omega arith;
                    now = inr (record { earlier = earlier; present = r; is = now.is; low = let a = now.low in omega arith; values = now.values });
                  };
              searched = (state-is ∙ ap (state_to p B) (sym ticks-on), choice ∙ turned.choice ∙ ap (chosen_to p B) (sym ticks-on));
              first_long = let e = ap length first_is ∙ written-length p u.sound (table_to p B (n + d)) first u.first_long in let l = u.first_long in omega arith;
              second_long = let e = ap length second_is ∙ marks-length p u.sound second u.second_long in let l = u.second_long in omega arith;
              first_holds =
                  first_is ∙ sym (written_again p (table_to p B (n + d)) (table_to p B (n + d)) first)
                  ∙ ap (written p (table_to p B (n + d))) (sym first_is)
                  ∙ ap (λ (m : ℕ). written p (table_to p B m) first') (sym ticks-on);
              second_holds = second_is ∙ sym (marks_again p second) ∙ ap (marks p) (sym second_is);
            }
