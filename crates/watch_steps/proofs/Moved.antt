-- The next piece is read, or there is none and all ticks were fed.
use Prim.Native.Nat.{ℕ, zero, suc, ◌-◌, ◌≤◌, ◌<◌}
use native.Mathlib.Omega.{arith}
use mathlib.Core.Path.{◌≡◌, refl, sym, ap, subst, ◌∙◌}
use mathlib.Core.Logic.{◌⊎◌, inl, inr}
use mathlib.Core.List.{List, [], ◌∷◌, ◌++◌, append_assoc}
use mathlib.Core.Option.{some}
use mathlib.Core.Bool.{Bool, true, false, cond, ◌&&◌}
use borrow.Author.Tests.{eqb-true, eqb-false, ltb-true, ltb-false}
use lib.Dec.{eqb, ltb}
use lib.ListN.{length}
use lib.IntN.{ℤ, pos}
use Rattle.pattern.specs.declared.Pattern.{Pattern}
use Rattle.pattern.proofs.SoundLaws as pattern
use Rattle.pattern_text.specs.Bytes.{Bytes}
use Rattle.pattern_text.specs.Text.{pad}
use Rattle.record.specs.Record.{total}
use Rattle.record.proofs.RecordLaws.{parts, lasts-at}
use Rattle.std.proofs.lemmas.List.{get_or_default}
use Rattle.record_text.specs.Piece.{RawPiece, values_in}
use Rattle.record_text.specs.Text.{render_record, read_record, durations_of, values_of}
use Rattle.record_read.specs.Line.{piece_at}
use Rattle.record_read.proofs.Theorems.{pieces_read, pieces_left}
use Rattle.best.specs.declared.Search.{Search}
use Rattle.best.specs.Best.{chosen_to, chosen_of}
use Rattle.best.specs.Search.{chosen_in}
use Rattle.watch_text.specs.Shown.{rows_from, best_text}
use Rattle.watch_steps.specs.declared.Cursor.{Cursor}
use Rattle.watch_steps.specs.Steps.{rows_due, Position, cursor_at, moved_on, Underway}
use Rattle.watch_steps.proofs.Pieces.{record_sound_lem, inside, duration-is, ticks-more}
use Rattle.watch_steps.proofs.Chunks.{B, long, ticks-read}

module _ (p : Pattern) (t : Bytes) (k : Cursor) (s : Search) (first second : List ℤ) (u : Underway p t k s first second) where
  abbrev n : ℕ
  n = s.state.ticks

  -- what is found once the next piece was looked for
  record Found (q : Cursor) : Type 0 where
    position : Position t n q
    ends : q.left ≡ 0 → length t ≤ q.at

  same_place : (length t ≤ k.at) ⊎ (¬ k.left ≡ 0) → Found k
  same_place (inl h) = record { position = u.position; ends = λ _. h }
  same_place (inr h) = record { position = u.position; ends = λ e. absurd (h e) }

  next_place : k.left ≡ 0 → k.at < length t → (fs : List RawPiece) → u.position.further ≡ fs → Found (cursor_at (piece_at t k.at))
  next_place e l [] is =
      let h = (pieces_left t u.position.read u.position.further u.position.reads).0 (let a = u.position.at in omega arith) in
      let z = ap length is in
      absurd (omega arith)
  next_place e l (r ∷ later) is =
      let read = u.position.read in
      let reads : read_record t ≡ some (read ++ (r ∷ later)) = u.position.reads ∙ ap (λ (q : List RawPiece). some (read ++ q)) is in
      let c = p.channels in
      let piece = pieces_read c t read r later (pattern.parts p u.sound).few_channels reads u.fits in
      let here : cursor_at (piece_at t k.at) ≡ record { at = length (render_record (read ++ (r ∷ []))); left = r.duration; values = pad 8 (pos 0) (values_in r) } =
      ap (λ (m : ℕ). cursor_at (piece_at t m)) u.position.at ∙ ap cursor_at piece in
      let rs = read ++ (r ∷ later) in
      let rules = record_sound_lem c t rs reads u.fits in
      let in-it = inside c t rs reads u.fits read r later refl in
      let lasts : 0 < r.duration =
      let a = lasts-at (durations_of rs) (length read) (parts c (durations_of rs) (values_of rs) rules).lasting in
      let b = get_or_default (durations_of rs) (length read) 0 1 in-it in
      let d = duration-is c t rs reads u.fits read r later refl in
      omega arith in
      subst Found (sym here)
      (record {
        position =
            record {
              read = read ++ (r ∷ []);
              further = later;
              reads = reads ∙ ap some (sym (append_assoc read (r ∷ []) later));
              at = refl;
              ticks = let a = u.position.ticks in let b = ticks-more read r in omega arith;
              now = inr (record { earlier = read; present = r; is = refl; low = omega arith; values = refl });
            };
        ends = λ z. absurd (omega arith);
      })

  found : Found (moved_on t k)
  unfolding moved_on
  found = by (eqb k.left 0) (ltb k.at (length t)) refl refl
    where
      by : (x y : Bool) → eqb k.left 0 ≡ x → ltb k.at (length t) ≡ y → Found (cond (x && y) (cursor_at (piece_at t k.at)) k)
      by true true e f = next_place (eqb-true k.left 0 e) (ltb-true k.at (length t) f) u.position.further refl
      by true false e f = same_place (inl (ltb-false k.at (length t) f))
      by false y e f = same_place (inr (eqb-false k.left 0 e))

  pub moved : Underway p t (moved_on t k) s first second
  moved =
      record {
        sound = u.sound;
        fits = u.fits;
        position = found.position;
        searched = u.searched;
        first_long = u.first_long;
        second_long = u.second_long;
        first_holds = u.first_holds;
        second_holds = u.second_holds;
      }

  pub moved-end : (moved_on t k).left ≡ 0 → length t ≤ (moved_on t k).at
  moved-end = found.ends

  -- ---- at the text's end

  none-further : (fs : List RawPiece) → length fs ≡ 0 → total (durations_of fs) ≡ 0
  unfolding durations_of total
  none-further [] e = refl
  none-further (r ∷ fs) e = absurd (omega arith)

  module _ (e : k.left ≡ 0) (h : length t ≤ k.at) where
    pub all_fed : n ≡ length (B p t k s first second u)
    all_fed =
        let none_left : length u.position.further ≡ 0 = by (length u.position.further) refl in
        let a = u.position.ticks in
        let b = ticks-read p t k s first second u in
        let c = long p t k s first second u in
        let d = none-further u.position.further none_left in
        omega arith
      where
        by : (m : ℕ) → length u.position.further ≡ m → length u.position.further ≡ 0
        by zero q = q
        by (suc m) q =
            let l = (pieces_left t u.position.read u.position.further u.position.reads).1 (omega arith) in
            let a = u.position.at in
            absurd (omega arith)

    pub last_due : rows_due p (B p t k s first second u) n ≡ best_text (chosen_of p (B p t k s first second u))
    unfolding rows_due rows_from
    last_due =
        let z : length (B p t k s first second u) - n ≡ 0 = let a = all_fed in omega arith in
        rw z

    pub last-choice : chosen_in s.choice ≡ chosen_of p (B p t k s first second u)
    last-choice = u.searched.1 ∙ ap (chosen_to p (B p t k s first second u)) all_fed
