-- How flags are found, block by block and row by row: a block is left without one only where all its cells are marks.
use Prim.Native.Nat.{ℕ, ◌+◌, ◌*◌, ◌^◌, ◌≤◌, ◌<◌}
use native.Mathlib.Omega.{arith}
use mathlib.Core.Path.{◌≡◌, sym}
use mathlib.Core.List.{List}
use mathlib.Core.Bool.{Bool, true, false, not, cond}
use borrow.Author.Count.{below_more}
use borrow.Author.Tests.{not-false}
use lib.Bits.{bit_or}
use lib.ListN.{length, take, drop, get_or, set, length-take, length-drop}
use lib.Seq.{get_or-take, get_or-drop, get_or-set_same, get_or-set_other}
use lib.IntN.{ℤ, pos}
use Rattle.integers.proofs.Equal.{eq-true}
use Rattle.weighting.specs.Cell.{mark}
use Rattle.pattern.specs.Slots.{all}
use Rattle.record.proofs.ListLaws.{all-at}
use Rattle.cells.specs.declared.Layout.{Layout}
use Rattle.cells.specs.Layout.{Laid, cells_in}
use Rattle.cells.proofs.Blocks.{row_next, row_inside, blocks_inside}
use Rattle.flags.specs.Flags.{bit_at, start_at, RowFlagged}
use Rattle.flags.proofs.Bits.{or-keeps, or_sets}
use Rattle.feed_checks.specs.Mark.{is_mark}

-- the number x is right for the first i blocks from a place
abbrev pub FlaggedTo : List ℤ → (from size i x : ℕ) → Type 0
FlaggedTo t from size i x =
    (j : ℕ) → j < i → (k : ℕ) → k < size → bit_at x j ≡ 0 → get_or t (from + j * size + k) (pos 0) ≡ mark

module _ (t : List ℤ) where
  -- where all are marks, each is
  marked : (at size : ℕ) → at + size ≤ length t → all is_mark (take size (drop at t)) ≡ true → (k : ℕ) → k < size → get_or t (at + k) (pos 0) ≡ mark
  marked at size fits e k low =
      let m = length-take size (drop at t) in
      let n = length-drop at t in
      eq-true _ mark (rw (get_or-take size (drop at t) k (pos 0) low, get_or-drop at t k (pos 0)) at (all-at is_mark (take size (drop at t)) k (pos 0) e (omega arith)))

  -- one block more, whose bit is set where one of its cells is not the mark
  pub flagged-more : (from size i x : ℕ) (on : Bool) → from + i * size + size ≤ length t → on ≡ not (all is_mark (take size (drop (from + i * size) t)))
      → FlaggedTo t from size i x → FlaggedTo t from size (i + 1) (cond on (bit_or x (2 ^ i)) x)
  flagged-more from size i x true fits e h = below_more _ i (λ j l k m z. h j l k m (or-keeps x (2 ^ i) j z)) (λ k m z. absurd (or_sets x i z))
  flagged-more from size i x false fits e h = below_more _ i h (λ k m z. marked (from + i * size) size fits (not-false _ (sym e)) k m)

-- a block of a row ends within the table
pub block_inside : (l : Layout) → Laid l → (n i : ℕ) → n ≤ l.high → i < 2 * l.places → start_at l n i + l.block ≤ cells_in l
block_inside l laid n i low h = omega (arith, row_inside l n low, blocks_inside l laid (i + 1) (omega arith), row_next i l.block)

-- one row more
pub rows_more : (l : Layout) (t : List ℤ) (f : List ℕ) (n x : ℕ) → n < length f → ((m : ℕ) → m < n → RowFlagged l t (get_or f m 0) m) → RowFlagged l t x n
    → (m : ℕ) → m < n + 1 → RowFlagged l t (get_or (set f n x) m 0) m
rows_more l t f n x h before here =
    below_more _ n (λ m low. rw (get_or-set_other f n m x 0 (λ e. omega arith)) (before m low)) (rw (get_or-set_same f n x 0 h) here)
