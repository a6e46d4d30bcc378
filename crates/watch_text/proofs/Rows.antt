-- How the lines follow one another.
use Prim.Native.Nat.{ℕ, zero, suc, ◌+◌, ◌<◌}
use native.Mathlib.Omega.{arith}
use mathlib.Core.Path.{◌≡◌, refl, sym, ap, ◌∙◌}
use mathlib.Core.List.{List, ◌++◌, append_assoc, append-nil}
use lib.ListN.{get_or}
use lib.IntN.{ℤ, pos}
use Rattle.pattern.specs.declared.Pattern.{Pattern}
use Rattle.record.specs.Record.{Book}
use Rattle.best.specs.Best.{score_at, length_at}
use Rattle.watch_text.specs.Shown.{row_for, rows_from, rows_past}

module _ (p : Pattern) (b : Book) where
  -- the lines of k ends and then those of m more
  pub rows_split : (n k m : ℕ) → rows_from p b n (k + m) ≡ rows_from p b n k ++ rows_from p b (n + k) m
  unfolding rows_from
  rows_split n zero m = let z : 0 + m ≡ m = omega arith in let y : n + 0 ≡ n = omega arith in rw (z, y)
  rows_split n (suc k) m =
      let z : suc k + m ≡ suc (k + m) = omega arith in
      let y : n + suc k ≡ suc n + k = omega arith in
      rw (z, rows_split (suc n) k m, y)
      (sym (append_assoc (row_for (suc n) (score_at p b (suc n)) (length_at p b (suc n))) (rows_from p b (suc n) k) (rows_from p b (suc n + k) m)))

  -- the reports of k ends, looked at one by one
  pub past_are : (n : ℕ) (ss : List ℤ) (ls : List ℕ) (k : ℕ)
      → ((j : ℕ) → j < k → (get_or ss j (pos 0) ≡ score_at p b (n + j + 1)) × (get_or ls j 0 ≡ length_at p b (n + j + 1)))
      → rows_past n ss ls k ≡ rows_from p b n k
  unfolding rows_past rows_from
  past_are n ss ls zero h = refl
  past_are n ss ls (suc k) h =
      let r = h k (omega arith) in
      let e : suc k ≡ k + 1 = omega arith in
      let y : n + k + 1 ≡ suc (n + k) = omega arith in
      rw (past_are n ss ls k (λ j l. h j (omega arith)), r.0, r.1)
      (sym (ap (rows_from p b n) e ∙ rows_split n k 1
      ∙ ap (◌++◌ (rows_from p b n k)) (append-nil (row_for (suc (n + k)) (score_at p b (suc (n + k))) (length_at p b (suc (n + k)))) ∙ ap (λ (e : ℕ). row_for e (score_at p b e) (length_at p b e)) (sym y))))
