-- What a look at the cells of a table finds: at one cell alone, and in a loop with one cell or one part of the table more.
use Prim.Native.Nat.{ℕ, zero, suc, ◌+◌, ◌-◌, ◌*◌, ◌≤◌, ◌<◌}
use native.Mathlib.Omega.{arith}
use mathlib.Core.Path.{◌≡◌, refl, subst}
use mathlib.Core.List.{List}
use mathlib.Core.Bool.{Bool, true, false, ◌&&◌}
use lib.ListN.{length, take, drop, get_or, length-take, length-drop}
use lib.Seq.{get_or-take, get_or-drop, take-add, drop-drop}
use lib.IntN.{ℤ, pos}
use Rattle.pattern.specs.Slots.{all}
use Rattle.pattern.proofs.ListLaws.{take_more}
use Rattle.pattern.proofs.SlotLaws.{all_append, all_snoc}
use Rattle.record.proofs.ListLaws.{all-at}
use Rattle.cells.proofs.Blocks.{row_next}

module _ (f : ℤ → Bool) (t : List ℤ) (at i : ℕ) where
  -- a cell more
  pub cell-more : at + i < length t → all f (take (i + 1) (drop at t)) ≡ all f (take i (drop at t)) && f (get_or t (at + i) (pos 0))
  cell-more h =
      let l = length-drop at t in
      rw (take_more i (drop at t) (pos 0) (omega arith), ← get_or-drop at t i (pos 0)) (all_snoc f (take i (drop at t)) (get_or (drop at t) i (pos 0)))

  -- a part of `size` cells more
  pub part-more : (size : ℕ) → all f (take ((i + 1) * size) (drop at t)) ≡ all f (take (i * size) (drop at t)) && all f (take size (drop (at + i * size) t))
  part-more size =
      rw (row_next i size, take-add (i * size) size (drop at t), drop-drop (i * size) at t)
      (all_append f (take (i * size) (drop at t)) (take size (drop (at + i * size) t)))

-- what holds of a value holds of all cells that have it
pub same-all : (f : ℤ → Bool) (t : List ℤ) (at : ℕ) (z : ℤ) → f z ≡ true → (i : ℕ) → at + i ≤ length t
    → ((j : ℕ) → j < i → get_or t (at + j) (pos 0) ≡ z) → all f (take i (drop at t)) ≡ true
same-all f t at z on zero fits same = refl
same-all f t at z on (suc i) fits same =
    let e : suc i ≡ i + 1 = omega arith in
    rw (e, cell-more f t at i (omega arith), same-all f t at z on i (omega arith) (λ j h. same j (omega arith)), same i (omega arith)) on

-- where the cells before one are alike and pass, those from it on decide
pub from-cell : (f : ℤ → Bool) (t : List ℤ) (at : ℕ) (z : ℤ) → f z ≡ true → (i size : ℕ) → i ≤ size → at + size ≤ length t
    → ((j : ℕ) → j < i → get_or t (at + j) (pos 0) ≡ z) → all f (take size (drop at t)) ≡ all f (take (at + size - (at + i)) (drop (at + i) t))
from-cell f t at z on i size low fits same =
    let e : i + (at + size - (at + i)) ≡ size = omega arith in
    subst (λ (n : ℕ). all f (take n (drop at t)) ≡ all f (take (at + size - (at + i)) (drop (at + i) t))) e
    (rw (take-add i (at + size - (at + i)) (drop at t), drop-drop i at t, all_append f (take i (drop at t)) (take (at + size - (at + i)) (drop (at + i) t)), same-all f t at z on i (omega arith) same))

-- a cell that fails
pub one_fails : (f : ℤ → Bool) (t : List ℤ) (at size i : ℕ) → i < size → at + size ≤ length t → f (get_or t (at + i) (pos 0)) ≡ false → all f (take size (drop at t)) ≡ false
one_fails f t at size i low fits e = by (all f (take size (drop at t))) refl
  where
    by : (x : Bool) → all f (take size (drop at t)) ≡ x → x ≡ false
    by true k =
        let m = length-take size (drop at t) in
        let n = length-drop at t in
        let v : f (get_or t (at + i) (pos 0)) ≡ true = rw (get_or-take size (drop at t) i (pos 0) low, get_or-drop at t i (pos 0)) at (all-at f (take size (drop at t)) i (pos 0) k (omega arith)) in
        cc
    by false k = refl

-- one cell alone
pub one_cell : (f : ℤ → Bool) (t : List ℤ) (at : ℕ) → at < length t → all f (take 1 (drop at t)) ≡ f (get_or t at (pos 0))
one_cell f t at h = let z : at + 0 ≡ at = omega arith in rw z at (cell-more f t at 0 (omega arith))
