-- Ceilings and the cells needed (document 01, 'Monitor tables', 'Count cells').
use Rattle.std.specs.Prelude.{ℕ, zero, suc, ◌+◌, ◌*◌, ◌^◌, ◌<◌, ◌≤◌, min, max, ◌≡◌, true, cond, eqb, ltb, Result, Ok, Err}
use mathlib.Core.List.{List, [], ◌∷◌, flat_map, Memᴰ}
use Rattle.pattern.specs.declared.Guard.{Guard}
use Rattle.pattern.specs.declared.Pattern.{Pattern}
use Rattle.pattern.specs.declared.Refusal.{Refusal}
use Rattle.pattern.specs.declared.Refusal.TheVariants.{UnsoundPattern}
use Rattle.pattern.specs.InUse.{guards_of, edges_of}
use Rattle.pattern.specs.Clocks.{on_side}
use Rattle.pattern.specs.Refusal.{number_of}
use Rattle.pattern.specs.Sound.{sound_of}

-- The bounds that guards put on a clock.
unfoldable pub bounds_on : (clock : ℕ) → List Guard → List ℕ
bounds_on k [] = []
bounds_on k (g ∷ gs) = cond (eqb g.clock k) (g.bound ∷ bounds_on k gs) (bounds_on k gs)

-- The largest of a list of numbers; 0 of none.
unfoldable pub largest : List ℕ → ℕ
largest [] = 0
largest (n ∷ ns) = max n (largest ns)

-- "The ceiling of a clock is 1 + its largest guard bound (1 if it has no guard)."
unfoldable pub ceiling_of : Pattern → (clock : ℕ) → ℕ
ceiling_of p k = largest (bounds_on k (flat_map guards_of (edges_of p))) + 1

-- "clocks are held at their ceiling": a clock's value as a table has it.
abbrev pub held_at : Pattern → (clock value : ℕ) → ℕ
held_at p k c = min c (ceiling_of p k)

-- Theorem: a guard of the pattern cannot tell a clock from the clock held at its ceiling. (With a ceiling at the largest
-- bound itself it could: `(> 0 3)` would never hold.)
abbrev pub GuardsSeeHeldClocks : Type 0
GuardsSeeHeldClocks =
    (p : Pattern) (g : Guard) → Memᴰ g (flat_map guards_of (edges_of p)) → (value : ℕ)
    → on_side g.sign (held_at p g.clock value) g.bound ≡ on_side g.sign value g.bound

-- How many values of a clock a table tells apart: "(ceiling + 1)"; 1 for a clock that the pattern lacks.
unfoldable pub radix_of : Pattern → (clock : ℕ) → ℕ
radix_of p k = cond (ltb k p.clocks) (ceiling_of p k + 1) 1

-- "the product over clocks of (ceiling + 1)": over the first n clocks
unfoldable pub clock_cells : Pattern → (n : ℕ) → ℕ
clock_cells p zero = 1
clock_cells p (suc k) = clock_cells p k * (ceiling_of p k + 1)

-- The product of the first n radices. A cell's index has a digit for each of four clocks, so it takes all four.
unfoldable pub radix_product : Pattern → (n : ℕ) → ℕ
radix_product p zero = 1
radix_product p (suc k) = radix_product p k * radix_of p k

-- Theorem: four clocks always, also where the pattern has fewer, come to the same cells.
abbrev pub FourRadices : Type 0
FourRadices = (p : Pattern) → p.clocks ≤ 4 → radix_product p 4 ≡ clock_cells p p.clocks

-- The cells of a table for runs of up to `longest` ticks: "(high + 1) × 2 × places × the product".
unfoldable pub cells_for : (longest : ℕ) → Pattern → ℕ
cells_for longest p = (longest + 1) * 2 * p.placecount * clock_cells p p.clocks

-- "Cells needed"
unfoldable pub cells_needed : Pattern → ℕ
cells_needed p = cells_for p.high p

-- Theorem: a sound pattern's cells fit 64 bits.
abbrev pub CellsFit : Type 0
CellsFit = (p : Pattern) → sound_of p ≡ true → cells_needed p < 2 ^ 64

-- Theorem: and they are at least 1, so that 0 can stand for a refused text.
abbrev pub SomeCell : Type 0
SomeCell = (p : Pattern) → sound_of p ≡ true → 1 ≤ cells_needed p

-- What an answer says: the refusal's number (0 if there is none), and the cells, zero beside a refusal.
abbrev pub counted_as : Result ℕ Refusal → ℕ × ℕ
counted_as (Ok n) = (0, n)
counted_as (Err r) = (number_of r, 0)

-- "Count cells. 7."
unfoldable pub cells_of : Pattern → Result ℕ Refusal
cells_of p = cond (sound_of p) (Ok (cells_needed p)) (Err UnsoundPattern)

-- The same in document 01's numbers.
abbrev pub cells_numbers : Pattern → ℕ × ℕ
cells_numbers p = cond (sound_of p) (0, cells_needed p) (7, 0)

-- Theorem: they agree.
abbrev pub CellsNumbers : Type 0
CellsNumbers = (p : Pattern) → counted_as (cells_of p) ≡ cells_numbers p
