-- Cells that hold only marks move nothing and tell nothing: a block, both blocks of a place, a row.
use Prim.Native.Nat.{ℕ, ◌+◌, ◌≤◌, ◌<◌, zero-le}
use native.Mathlib.Omega.{arith}
use mathlib.Core.Path.{◌≡◌, refl, sym}
use mathlib.Core.Bool.{Bool, true, false}
use Rattle.std.specs.Prelude.{Option}
use mathlib.Core.List.{List}
use lib.IntN.{ℤ}
use lib.Signed.{lt_z}
use Rattle.weighting.specs.declared.Weighing.{Weighing}
use Rattle.weighting.specs.Cell.{mark}
use Rattle.pattern.specs.declared.Edge.{Edge}
use Rattle.cells.specs.declared.Layout.{Layout}
use Rattle.cells.specs.Index.{block_at}
use Rattle.flags.specs.Flags.{flag_at, RowFlagged}
use Rattle.flags.proofs.Flags.{no_flags}
use Rattle.table.specs.declared.View.{View}
use Rattle.table.specs.declared.report.Report.{Report}
use Rattle.table.specs.Moves.{cell_at, each, pass_of, place_of, places_of}
use Rattle.table.specs.Reports.{told_pass, told_place, told_places}
use Rattle.table.specs.Asks.{Empty}
use Rattle.table.proofs.Steps.{each_skip, visits_skip, pass_is, pass_no}
use Rattle.table.proofs.Told.{told_skip, told_pass_lem, told_pass_no}
use Rattle.table.proofs.Flags.{flag_low, block_start}

-- no turn changes anything
each_none : {A : Type 0} (f : ℕ → A → A) (m : ℕ) (a : A) → ((i : ℕ) → i < m → f i a ≡ a) → each f m a ≡ a
unfolding each
each_none f m a h =
    let e : 0 + m ≡ m = omega arith in
    rw e at (each_skip f m 0 a (λ j x y. h j (omega arith)))

module _ (l : Layout) (w : Weighing) (es : List Edge) (count : ℕ) (t : List ℤ) where
  module _ (g : ℤ) (n p at : ℕ) (empty : Empty t at l.block) where
    none : (j : ℕ) → 0 ≤ j → j < l.block → cell_at t (at + j) ≡ mark
    none j x y = empty j y

    pub empty_pass : pass_of l w es count g n p at t ≡ t
    unfolding each
    empty_pass = by (lt_z mark g) refl
      where
        by : (b : Bool) → lt_z mark g ≡ b → pass_of l w es count g n p at t ≡ t
        by true m = sym (pass_is l w es count g n p at t t m (visits_skip l w es count g n p at 0 l.block t zero-le none))
        by false m = sym (pass_no l w es count g n p at t m)

    pub empty-told : (tells : List Bool) (r : Option Report) → told_pass l w es count tells g n p at t r ≡ r
    unfolding each
    empty-told tells r = by (lt_z mark g) refl
      where
        by : (b : Bool) → lt_z mark g ≡ b → told_pass l w es count tells g n p at t r ≡ r
        by true m = sym (told_pass_lem l w es count tells g n p at t r r m (told_skip l w es count tells g n p at t 0 l.block r zero-le none))
        by false m = sym (told_pass_no l w es count tells g n p at t r m)

  -- a row without a flag
  module _ (v : View) (n : ℕ) (row : RowFlagged l t 0 n) where
    at_stage : (stage p : ℕ) → stage ≤ 1 → p < l.places → Empty t (block_at l n stage p) l.block
    at_stage stage p h q k low = rw (block_start l n stage p) (no_flags l t n row (flag_at l stage p) k (flag_low l stage p h q) low)

    empty-place : (g h : ℤ) (p : ℕ) → p < l.places → place_of l w es count g h n p t ≡ t
    unfolding place_of
    empty-place g h p q = rw (empty_pass g n p (block_at l n 0 p) (at_stage 0 p (omega arith) q)) (empty_pass h n p (block_at l n 1 p) (at_stage 1 p (omega arith) q))

    empty-place-told : (tells : List Bool) (g h : ℤ) (p : ℕ) (r : Option Report) → p < l.places → told_place l w es count tells g h n p t r ≡ r
    unfolding told_place
    empty-place-told tells g h p r q = rw (empty-told g n p (block_at l n 0 p) (at_stage 0 p (omega arith) q) tells r) (empty-told h n p (block_at l n 1 p) (at_stage 1 p (omega arith) q) tells r)

    pub empty-row : places_of l w v es count n l.places t ≡ t
    empty-row = each_none _ l.places t (λ p q. empty-place _ _ p q)

    pub empty-row-told : (tells : List Bool) (r : Option Report) → told_places l w v es count tells n l.places t r ≡ r
    empty-row-told tells r = each_none _ l.places r (λ p q. empty-place-told tells _ _ p r q)
