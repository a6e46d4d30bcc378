-- What stays right of the flags when a flag is raised, a cell is written, or a row is cleared.
use Prim.Native.Nat.{ℕ, ◌+◌, ◌*◌, ◌^◌, ◌≤◌, ◌<◌}
use native.Mathlib.Omega.{arith}
use native.Mathlib.Nat.{mul-le-mul_right}
use mathlib.Core.Path.{◌≡◌, refl, ◌∙◌}
use mathlib.Core.Bool.{Bool, true, false}
use mathlib.Core.List.{List}
use mathlib.Core.Logic.{◌⊎◌, inl, inr}
use borrow.Author.Tests.{eqb-true, eqb-false, ltb-true, ltb-false}
use lib.Bits.{bit_or}
use lib.Dec.{eqb, ltb}
use lib.ListN.{length, get_or, set, length-set}
use lib.Seq.{get_or-set_same, get_or-set_other}
use lib.IntN.{ℤ, pos}
use Rattle.weighting.specs.Cell.{mark}
use Rattle.cells.specs.declared.Layout.{Layout}
use Rattle.cells.specs.Layout.{Laid}
use Rattle.cells.proofs.Blocks.{row_next, blocks_inside}
use Rattle.flags.specs.Flags.{bit_at, start_at, raised, RowFlagged, Flagged, IsRaised, Higher, Grown}
use Rattle.flags.proofs.Bits.{or-keeps, or_sets, no_bit}

-- ---- cells of different parts

-- a cell of another part lies on one side of part b
pub side : (B d b j : ℕ) → j < B → (d ≡ b → ⊥) → (d * B + j < b * B) ⊎ (b * B + B ≤ d * B + j)
side B d b j h q = by (ltb d b) refl
  where
    by : (x : Bool) → ltb d b ≡ x → (d * B + j < b * B) ⊎ (b * B + B ≤ d * B + j)
    by true y =
        let z = ltb-true d b y in
        let u = mul-le-mul_right {m = d + 1} {n = b} B (omega arith) in
        inl (omega (arith, row_next d B))
    by false y =
        let z = ltb-false d b y in
        let w : b < d = omega (arith, q) in
        let u = mul-le-mul_right {m = b + 1} {n = d} B (omega arith) in
        inr (omega (arith, row_next b B))

-- so cells of different parts are different
apart : (B b c j k : ℕ) → j < B → k < B → (b ≡ c → ⊥) → b * B + j ≡ c * B + k → ⊥
apart B b c j k hj hk ne e = by (side B b c j hj ne)
  where
    by : (b * B + j < c * B) ⊎ (c * B + B ≤ b * B + j) → ⊥
    by (inl x) = omega arith
    by (inr x) = omega arith

-- ---- flags

-- the number of another row, and that of the row itself
pub raised-other : (f : List ℕ) (n i m : ℕ) → (m ≡ n → ⊥) → get_or (raised f n i) m 0 ≡ get_or f m 0
unfolding raised
raised-other f n i m h = get_or-set_other f n m _ 0 h

pub raised-same : (f : List ℕ) (n i : ℕ) → n < length f → get_or (raised f n i) n 0 ≡ bit_or (get_or f n 0) (2 ^ i)
unfolding raised
raised-same f n i h = get_or-set_same f n _ 0 h

pub raised_long : (f : List ℕ) (n i : ℕ) → length (raised f n i) ≡ length f
unfolding raised
raised_long f n i = length-set f n _

pub higher-refl : (f : List ℕ) → Higher f f
higher-refl f = record { long = refl; keeps = λ n i h. h }

pub higher-trans : {f g h : List ℕ} → Higher f g → Higher g h → Higher f h
higher-trans a b = record { long = b.long ∙ a.long; keeps = λ n i h. a.keeps n i (b.keeps n i h) }

pub higher-raised : (f : List ℕ) (n i : ℕ) → n < length f → Higher f (raised f n i)
higher-raised f n i low = record { long = raised_long f n i; keeps = λ m j h. by m j h (eqb m n) refl }
  where
    by : (m j : ℕ) → bit_at (get_or (raised f n i) m 0) j ≡ 0 → (x : Bool) → eqb m n ≡ x → bit_at (get_or f m 0) j ≡ 0
    by m j h true e =
        let q : m ≡ n = eqb-true m n e in
        let z : bit_at (bit_or (get_or f n 0) (2 ^ i)) j ≡ 0 = rw (q, raised-same f n i low) at h in
        rw q (or-keeps (get_or f n 0) (2 ^ i) j z)
    by m j h false e = rw (raised-other f n i m (eqb-false m n e)) at h

-- the flag that is raised
pub raised_is : (f : List ℕ) (n i : ℕ) → n < length f → IsRaised (raised f n i) n i
raised_is f n i low z = or_sets (get_or f n 0) i (rw (raised-same f n i low) at z)

pub grown-refl : {l : Layout} {t : List ℤ} {f : List ℕ} → Flagged l t f → Grown l t f f
grown-refl {f = f} k = record { flagged = k; higher = higher-refl f }

pub grown-trans : {l : Layout} {t u : List ℤ} {f g h : List ℕ} → Grown l t f g → Grown l u g h → Grown l u f h
grown-trans a b = record { flagged = b.flagged; higher = higher-trans a.higher b.higher }

module _ (l : Layout) (laid : Laid l) where
  -- a block's cells lie in its row
  pub in_row : (i k : ℕ) → i < 2 * l.places → k < l.block → i * l.block + k < l.row
  in_row i k hi hk = omega (arith, blocks_inside l laid (i + 1) (omega arith), row_next i l.block)

  -- more flags than are needed are right, too
  flagged-higher : (t : List ℤ) (f g : List ℕ) → Higher f g → Flagged l t f → Flagged l t g
  flagged-higher t f g h k =
      record {
        long = rw h.long k.long;
        rows = λ n low. record { marks = λ i c hi hc z. (k.rows n low).marks i c hi hc (h.keeps n i z) };
      }

  -- one flag more
  pub raised-grown : (t : List ℤ) (f : List ℕ) (n i : ℕ) → n < length f → Flagged l t f → Grown l t f (raised f n i)
  raised-grown t f n i inside k = let up = higher-raised f n i inside in record { flagged = flagged-higher t f (raised f n i) up k; higher = up }

  -- a cell of a block is written whose flag is raised
  pub flagged-write : (t : List ℤ) (f : List ℕ) (n i c : ℕ) (v : ℤ) → i < 2 * l.places → c < l.block → IsRaised f n i → Flagged l t f → Flagged l (set t (start_at l n i + c) v) f
  flagged-write t f n i c v hi hc up k =
      record { long = k.long; rows = λ m lm. record { marks = λ j d hj hd z. other m j d hj hd z (eqb m n) refl ∙ (k.rows m lm).marks j d hj hd z } }
    where
      same_row : (j d : ℕ) → d < l.block → bit_at (get_or f n 0) j ≡ 0 → (x : Bool) → eqb j i ≡ x → get_or (set t (start_at l n i + c) v) (start_at l n j + d) (pos 0) ≡ get_or t (start_at l n j + d) (pos 0)
      same_row j d hd z true e = let q : j ≡ i = eqb-true j i e in absurd (up (rw q at z))
      same_row j d hd z false e =
          let ne = apart l.block j i d c hd hc (eqb-false j i e) in
          get_or-set_other t (start_at l n i + c) (start_at l n j + d) v (pos 0) (λ s. ne (omega arith))

      other : (m j d : ℕ) → j < 2 * l.places → d < l.block → bit_at (get_or f m 0) j ≡ 0 → (x : Bool) → eqb m n ≡ x → get_or (set t (start_at l n i + c) v) (start_at l m j + d) (pos 0) ≡ get_or t (start_at l m j + d) (pos 0)
      other m j d hj hd z true e = let q : m ≡ n = eqb-true m n e in rw q (same_row j d hd (rw q at z) (eqb j i) refl)
      other m j d hj hd z false e =
          let ne = apart l.row m n (j * l.block + d) (i * l.block + c) (in_row j d hj hd) (in_row i c hi hc) (eqb-false m n e) in
          get_or-set_other t (start_at l n i + c) (start_at l m j + d) v (pos 0) (λ s. ne (omega arith))

  -- a cell of block i of row n is written, and the block's flag is raised
  pub flagged-put : (t : List ℤ) (f : List ℕ) (n i c : ℕ) (v : ℤ) → n ≤ l.high → i < 2 * l.places → c < l.block → Flagged l t f → Grown l (set t (start_at l n i + c) v) f (raised f n i)
  flagged-put t f n i c v low hi hc k =
      let inside : n < length f = let z = k.long in omega arith in
      let g = raised-grown t f n i inside k in
      record { flagged = flagged-write t (raised f n i) n i c v hi hc (raised_is f n i inside) g.flagged; higher = g.higher }

  -- row n is all marks, the other rows are as they were, and the row has no flag
  pub flagged_wiped : (t u : List ℤ) (f : List ℕ) (n : ℕ) → n ≤ l.high → Flagged l t f → ((k : ℕ) → k < l.row → get_or u (n * l.row + k) (pos 0) ≡ mark) → ((i : ℕ) → (i < n * l.row) ⊎ (n * l.row + l.row ≤ i) → get_or u i (pos 0) ≡ get_or t i (pos 0)) → Flagged l u (set f n 0)
  flagged_wiped t u f n low k within outside =
      record {
        long = rw (length-set f n 0) k.long;
        rows = λ m lm. record { marks = λ j d hj hd z. by m j d lm hj hd z (eqb m n) refl };
      }
    where
      by : (m j d : ℕ) → m ≤ l.high → j < 2 * l.places → d < l.block → bit_at (get_or (set f n 0) m 0) j ≡ 0 → (x : Bool) → eqb m n ≡ x → get_or u (start_at l m j + d) (pos 0) ≡ mark
      by m j d lm hj hd z true e =
          let q : m ≡ n = eqb-true m n e in
          let s : start_at l n j + d ≡ n * l.row + (j * l.block + d) = omega arith in
          rw (q, s) (within (j * l.block + d) (in_row j d hj hd))
      by m j d lm hj hd z false e =
          let ne = eqb-false m n e in
          let s : start_at l m j + d ≡ m * l.row + (j * l.block + d) = omega arith in
          rw s (outside (m * l.row + (j * l.block + d)) (side l.row m n (j * l.block + d) (in_row j d hj hd) ne))
          ∙ (k.rows m lm).marks j d hj hd (rw (get_or-set_other f n m 0 0 ne) at z)

-- a row without a flag holds only marks
pub no_flags : (l : Layout) (t : List ℤ) (n : ℕ) → RowFlagged l t 0 n → (i k : ℕ) → i < 2 * l.places → k < l.block → get_or t (start_at l n i + k) (pos 0) ≡ mark
no_flags l t n h i k hi hk = h.marks i k hi hk (no_bit i)
