-- Blocks and rows in a table, and the index of a cell: its range, and that it and its inverse undo each other.
use Prim.Native.Nat.{ℕ, ◌+◌, ◌*◌, ◌/◌, ◌%◌, ◌^◌, ◌≤◌, ◌<◌}
use native.Mathlib.Omega.{arith}
use native.Mathlib.Numerals.{add-one}
use native.Mathlib.Nat.{suc-mul, one-mul, mul_comm, mul_assoc, add-mul, mul-le-mul_right, le-mul_of_pos_right, div-add-mod', div-lt_iff_lt-mul, mod-lt, mul-zero, zero-mul, pos_of_ne-zero}
use mathlib.Core.Path.{◌≡◌, sym, ap, ◌∙◌}
use lib.Arith.{digits_div, digits_mod}
use Rattle.cells.specs.declared.Layout.{Layout}
use Rattle.cells.specs.Layout.{Laid, cells_in}
use Rattle.cells.specs.Index.{code_of, block_at, index_of, len_at, stage_at, place_at, cell_clocks, Placed, IndexFound, IndexOfFound}
use Rattle.cells.proofs.Digits.{block-some, coded, code_of_clocks, clocks_of_code, clocks-within}

pub row_next : (n r : ℕ) → (n + 1) * r ≡ n * r + r
row_next n r = omega (arith, suc-mul n r, ap (λ (m : ℕ). m * r) (add-one n))

-- ---- where a block stands

-- a row ends within the table, and its first i blocks end within the row
pub row_inside : (l : Layout) (n : ℕ) → n ≤ l.high → n * l.row + l.row ≤ cells_in l
row_inside l n h = omega (arith, mul-le-mul_right {m = n + 1} {n = l.high + 1} l.row (omega arith), row_next n l.row)

pub blocks_inside : (l : Layout) → Laid l → (i : ℕ) → i ≤ 2 * l.places → i * l.block ≤ l.row
blocks_inside l laid i h = omega (arith, mul-le-mul_right {m = i} {n = 2 * l.places} l.block h, laid.row_is)

pub record InTable (l : Layout) (n stage p : ℕ) : Type 0 where
  pub stages : stage * l.places ≤ l.places
  pub count : stage * l.places + p ≤ (stage * l.places + p) * l.block
  pub fits : (stage * l.places + p) * l.block + l.block ≤ l.row
  pub whole : n * l.row + l.row ≤ cells_in l
  pub all : l.places < 2 ^ 62

pub in_table : (l : Layout) (n stage p : ℕ) → Placed l n stage p → InTable l n stage p
in_table l n stage p h =
    let some = block-some l h.laid in
    let few : stage * l.places ≤ l.places = omega (arith, mul-le-mul_right {m = stage} {n = 1} l.places h.stages, one-mul l.places) in
    let up = blocks_inside l h.laid (stage * l.places + p + 1) (omega (arith, h.place)) in
    record {
      stages = few;
      count = le-mul_of_pos_right (stage * l.places + p) some;
      fits = omega (arith, up, row_next (stage * l.places + p) l.block);
      whole = row_inside l n h.low;
      all = omega (arith, h.laid.few);
    }

-- the first cell of row n is not past the block, and the block ends in the row
pub below-block : (l : Layout) (n stage p : ℕ) → n * l.row ≤ block_at l n stage p
unfolding block_at
below-block l n stage p = omega arith

pub block-low : (l : Layout) (n stage p : ℕ) → Placed l n stage p → block_at l n stage p + l.block ≤ n * l.row + l.row
unfolding block_at
block-low l n stage p h = omega (arith, (in_table l n stage p h).fits)

pub block_in : (l : Layout) (n stage p : ℕ) → Placed l n stage p → block_at l n stage p + l.block ≤ cells_in l
block_in l n stage p h = omega (arith, block-low l n stage p h, (in_table l n stage p h).whole)

-- a block of one row ends before any block of the next
pub apart : (l : Layout) (n stage p stage' p' : ℕ) → Placed l n stage p → block_at l n stage p + l.block ≤ block_at l (n + 1) stage' p'
apart l n stage p stage' p' h = omega (arith, block-low l n stage p h, below-block l (n + 1) stage' p', row_next n l.row)

pub row_small : (l : Layout) → Laid l → l.row < 2 ^ 62
row_small l h = omega (arith, le-mul_of_pos_right {m = l.high + 1} l.row (omega arith), mul_comm (l.high + 1) l.row, h.small)

pub row_first : (l : Layout) → l.row ≤ cells_in l
row_first l = omega (arith, le-mul_of_pos_right {m = l.high + 1} l.row (omega arith), mul_comm (l.high + 1) l.row)

pub row_fits : (l : Layout) (n : ℕ) → n < l.high → (n + 1) * l.row + l.row ≤ cells_in l
row_fits l n h = row_inside l (n + 1) (omega arith)

-- ---- the index of a cell and what stands at an index

-- the index in mixed radix
mixed : (l : Layout) (n stage p code : ℕ) → Laid l → block_at l n stage p + code ≡ ((n * 2 + stage) * l.places + p) * l.block + code
unfolding block_at
mixed l n stage p code h =
    let a : n * l.row ≡ n * 2 * l.places * l.block = ap (λ (r : ℕ). n * r) h.row_is ∙ sym (mul_assoc n (2 * l.places) l.block) ∙ ap (λ (x : ℕ). x * l.block) (sym (mul_assoc n 2 l.places)) in
    let b = add-mul (n * 2) stage l.places in
    let c : (n * 2 + stage) * l.places + p ≡ n * 2 * l.places + (stage * l.places + p) = omega arith in
    let d = add-mul (n * 2 * l.places) (stage * l.places + p) l.block in
    rw c (omega arith)

-- what stands at a cell's index is the cell
pub found : IndexFound
unfolding index_of len_at stage_at place_at cell_clocks
found l n stage p cs h four w =
    let code = code_of l.radices cs in
    let low = (coded l cs h.laid w).whole in
    let m = mixed l n stage p (code_of l.radices cs) h.laid in
    let q : (block_at l n stage p + code_of l.radices cs) / l.block ≡ (n * 2 + stage) * l.places + p = ap (λ (x : ℕ). x / l.block) m ∙ digits_div ((n * 2 + stage) * l.places + p) low in
    let r : (block_at l n stage p + code_of l.radices cs) % l.block ≡ code_of l.radices cs = ap (λ (x : ℕ). x % l.block) m ∙ digits_mod ((n * 2 + stage) * l.places + p) low in
    let s : ((n * 2 + stage) * l.places + p) / l.places ≡ n * 2 + stage = digits_div (n * 2 + stage) h.place in
    let st : stage < 2 = omega (arith, h.stages) in
    record {
      len = rw (q, s) (digits_div n st);
      stage_is = rw (q, s) (digits_mod n st);
      place = rw q (digits_mod (n * 2 + stage) h.place);
      clocks = rw r (clocks_of_code l.radices cs four w);
      below = omega (arith, block_in l n stage p h);
    }

some-place : (l : Layout) (i : ℕ) → Laid l → i < cells_in l → 0 < l.places
some-place l i h below = pos_of_ne-zero no
  where
    no : l.places ≡ 0 → ⊥
    no z =
        let e : l.row ≡ 0 = h.row_is ∙ ap (λ (p : ℕ). 2 * p * l.block) z ∙ zero-mul l.block in
        let f : cells_in l ≡ 0 = ap (λ (r : ℕ). (l.high + 1) * r) e ∙ mul-zero (l.high + 1) in
        omega arith

pub at : IndexOfFound
unfolding index_of len_at stage_at place_at cell_clocks
at l i h below =
    let q = i / l.block in
    let some = block-some l h in
    let e = h.row_is in
    let f : cells_in l ≡ (l.high + 1) * 2 * l.places * l.block = ap (λ (r : ℕ). (l.high + 1) * r) h.row_is ∙ sym (mul_assoc (l.high + 1) (2 * l.places) l.block) ∙ ap (λ (x : ℕ). x * l.block) (sym (mul_assoc (l.high + 1) 2 l.places)) in
    let places = some-place l i h below in
    let k2 = (div-lt_iff_lt-mul {x = i} {y = (l.high + 1) * 2 * l.places} some).1 (rw f at below) in
    let k1 = (div-lt_iff_lt-mul {x = i / l.block} {y = (l.high + 1) * 2} places).1 k2 in
    let k0 = (div-lt_iff_lt-mul {k = 2} {x = i / l.block / l.places} {y = l.high + 1} (omega arith)).1 k1 in
    let a = div-add-mod' (i / l.block / l.places) 2 in
    let b = div-add-mod' (i / l.block) l.places in
    let c = div-add-mod' i l.block in
    record {
      placed = record { laid = h; low = omega arith; stages = omega (arith, mod-lt (i / l.block / l.places) {m = 2} (omega arith)); place = mod-lt (i / l.block) places };
      within = clocks-within l (i % l.block) h (mod-lt i some);
      index = mixed l _ _ _ _ h ∙ rw ((code_of_clocks l (i % l.block) h).code, a, b) c;
    }
