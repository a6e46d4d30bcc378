-- Why each line is right: an end's line is by its report, and demand 3 says what a report holds.
use Prim.Native.Nat.{ℕ, zero, suc, ◌+◌, ◌-◌, ◌≤◌, ◌<◌}
use native.Mathlib.Omega.{arith}
use mathlib.Core.Path.{◌≡◌, refl, sym, ap, subst, ◌∙◌}
use mathlib.Core.Logic.{◌⊎◌, inl, inr, ⊎_elim}
use mathlib.Core.List.Memᴰ
use mathlib.Core.List.{List, [], ◌∷◌, ◌++◌, Memᴰ}
use mathlib.Core.Option.{Option, none, some}
use mathlib.Core.Bool.{Bool, true, false, cond}
use borrow.Author.Tests.{leb-true, leb-false, eqb-true}
use lib.Dec.{leb, eqb}
use lib.ListN.{length}
use lib.IntN.{ℤ}
use Rattle.pattern.specs.declared.Pattern.{Pattern}
use Rattle.pattern.specs.Sound.{sound_of}
use Rattle.pattern.proofs.SoundLaws.{parts}
use Rattle.std.specs.Prelude.{Ok}
use Rattle.pattern_text.specs.Bytes.{Bytes}
use Rattle.record.specs.Record.{Book}
use Rattle.monitor.specs.Demand.{InWindow, BestRun, NoRun}
use Rattle.monitor.proofs.Demand.{report-right}
use Rattle.best.specs.Best.{Chosen, score_at, length_at, chosen_of, run_of}
use Rattle.best.specs.Claims.{RunFrom, AnswerSays}
use Rattle.best.proofs.Ends.{best_of_record}
use Rattle.best.proofs.Answer.{from-begin, by_length, ends-inside, said}
use Rattle.watch_text.specs.Shown.{heading, row_text, row_for, rows_from, best_text, shown_for}
use Rattle.watch_text.specs.Claims.{Row, row_line, row_lines, last_line, RowRight, Rising, LastRight, Shows, ShownRight}

-- a report's line, without a run and with one
no_line : (end : ℕ) (s : ℤ) (len : ℕ) → len ≡ 0 → row_for end s len ≡ []
unfolding row_for
no_line end s len e = rw e

a_line : (end : ℕ) (s : ℤ) (len : ℕ) → 1 ≤ len → row_for end s len ≡ row_text end (end - len) s
unfolding row_for
a_line end s len h = by (eqb len 0) refl
  where
    by : (x : Bool) → eqb len 0 ≡ x → cond x [] (row_text end (end - len) s) ≡ row_text end (end - len) s
    by true e = let z = eqb-true len 0 e in absurd (omega arith)
    by false e = refl

-- the choice as a row
abbrev last_of : Option Chosen → Option Row
last_of none = none
last_of (some f) = some (record { end = f.end; begin = f.end - f.len; score = f.score })

last-is : (o : Option Chosen) → best_text o ≡ last_line (last_of o)
unfolding best_text last_line
last-is none = refl
last-is (some f) = refl

module _ (p : Pattern) (sound : sound_of p ≡ true) (b : Book) where
  -- the rows of the ends from the one after n on, up to n + m
  record Stretch (n m : ℕ) (shown : Bytes) : Type 0 where
    rows : List Row
    is : shown ≡ row_lines rows
    rising : Rising rows
    later : (r : Row) → Memᴰ r rows → n < r.end
    right : (r : Row) → Memᴰ r rows → RowRight p b r
    every_end : (begin end : ℕ) (w : ℤ) → n < end → end ≤ n + m → RunFrom p b begin end w → (r : Row) × Memᴰ r rows × (r.end ≡ end)

  nothing : (n : ℕ) → Stretch n 0 []
  unfolding row_lines Rising
  nothing n =
      record {
        rows = [];
        is = refl;
        rising = tt;
        later = λ r m. absurd (Memᴰ.not-nil m);
        right = λ r m. absurd (Memᴰ.not-nil m);
        every_end = λ begin end w low high run. absurd (omega arith);
      }

  -- the next end, or a later one
  next-end : (n end : ℕ) → n < end → (end ≡ suc n) ⊎ (suc n < end)
  next-end n end h = by (leb end (suc n)) refl
    where
      by : (x : Bool) → leb end (suc n) ≡ x → (end ≡ suc n) ⊎ (suc n < end)
      by true e = let l = leb-true end (suc n) e in inl (omega arith)
      by false e = let l = leb-false end (suc n) e in inr (omega arith)

  module _ (n m : ℕ) (shown : Bytes) (k : Stretch (suc n) m shown) (s : ℤ) (len : ℕ) where
    -- no run has the next end, and it has no line
    without : NoRun p b (suc n) s len → Stretch n (suc m) (row_for (suc n) s len ++ shown)
    without r =
        record {
          rows = k.rows;
          is = ap (λ (x : Bytes). x ++ shown) (no_line (suc n) s len r.no_length) ∙ k.is;
          rising = k.rising;
          later = λ q i. let l = k.later q i in omega arith;
          right = k.right;
          every_end = λ begin end w low high run.
              ⊎_elim
              (λ e. let i = from-begin p b begin end w run in
              absurd (r.none (end - begin) w (subst (λ (x : ℕ). InWindow p b x (end - begin) w) e i)))
              (λ l. k.every_end begin end w l (omega arith) run)
              (next-end n end low);
        }

    -- the best run of the next end is its line
    module _ (r : BestRun p b (suc n) s len) where
      abbrev row : Row
      row = record { end = suc n; begin = suc n - len; score = s }

      row-right : RowRight p b row
      row-right =
          record {
            attained = by_length p b (suc n) len s r.attained;
            none_better = λ a w run. r.none_better (suc n - a) w (from-begin p b a (suc n) w run);
            none_shorter = λ a run. let l = r.none_shorter (suc n - a) (from-begin p b a (suc n) s run) in omega arith;
          }

      with_row : Stretch n (suc m) (row_for (suc n) s len ++ shown)
      unfolding row_lines Rising
      with_row =
          let lasts : 1 ≤ len = let l = (parts p sound).some_low in let h = r.attained.low in omega arith in
          record {
            rows = row ∷ k.rows;
            is = ap (λ (x : Bytes). x ++ shown) (a_line (suc n) s len lasts) ∙ ap (λ (x : Bytes). row_line row ++ x) k.is;
            rising = (λ q i. k.later q i, k.rising);
            later = λ q i. ⊎_elim (λ e. let f = ap (λ (x : Row). x.end) e in omega arith) (λ j. let l = k.later q j in omega arith) (Memᴰ.cases_cons i);
            right = λ q i. ⊎_elim (λ e. subst (RowRight p b) (sym e) row-right) (λ j. k.right q j) (Memᴰ.cases_cons i);
            every_end = λ begin end w low high run.
                ⊎_elim
                (λ e. (row, Memᴰ.head refl, sym e))
                (λ l. let x = k.every_end begin end w l (omega arith) run in (x.0, Memᴰ.tail x.1, x.2))
                (next-end n end low);
          }

  stretch : (m n : ℕ) → n + m ≤ length b → Stretch n m (rows_from p b n m)
  unfolding rows_from
  stretch zero n h = nothing n
  stretch (suc m) n h =
      ⊎_elim
      (with_row n m (rows_from p b (suc n) m) (stretch m (suc n) (omega arith)) (score_at p b (suc n)) (length_at p b (suc n)))
      (without n m (rows_from p b (suc n) m) (stretch m (suc n) (omega arith)) (score_at p b (suc n)) (length_at p b (suc n)))
      (report-right p sound b (suc n) (omega arith))

  last-right : (o : Option Chosen) → AnswerSays p b (Ok (run_of o)) → LastRight p b (last_of o)
  last-right none k = k
  last-right (some f) k = k

  shows : Shows p b (shown_for p b)
  unfolding shown_for
  shows =
      let k = stretch (length b) 0 (omega arith) in
      let o = chosen_of p b in
      record {
        rows = k.rows;
        last = last_of o;
        is = ap (λ (x : Bytes). heading ++ (x ++ best_text o)) k.is ∙ ap (λ (x : Bytes). heading ++ (row_lines k.rows ++ x)) (last-is o);
        rows_right =
            record {
              rising = k.rising;
              right = k.right;
              every_end = λ begin end w run.
                  let high = ends-inside p b begin end w run in
                  let long : p.low ≤ end - begin = run.low in
                  let least : 1 ≤ p.low = (parts p sound).some_low in
                  k.every_end begin end w (omega arith) (omega arith) run;
            };
        last_right = last-right o (said p b o (best_of_record p sound b));
      }

pub shown-right : ShownRight
shown-right p sound b = shows p sound b
