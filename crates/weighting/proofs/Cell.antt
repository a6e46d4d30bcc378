-- A cell and what it holds: each from the other, and how the code tells a mark.
use mathlib.Core.Path.{◌≡◌, refl, sym, ap, ◌∙◌}
use mathlib.Core.Bool.{Bool, true, false, cond, ◌&&◌}
use mathlib.Core.Logic.{⊎_elim}
use mathlib.Core.Option.{Option, none, some, none-ne-some, some-injective}
use Prim.Native.Nat.{ℕ, ◌<◌, ◌^◌}
use native.Mathlib.Omega.{arith}
use lib.IntN.{ℤ, nat_abs}
use lib.Signed.{lt_z}
use mir.Syntax.{w64}
use mir.Val.{SFits}
use mir.Facts.{sfits_lit}
use Rattle.integers.specs.Equal.{eq_z}
use Rattle.integers.proofs.Equal.{eq_self, eq-true, ne_false}
use Rattle.integers.proofs.Linear.{up, down, eq_of, lt_of, ge_of, mag_is, negsuc_is}
use Rattle.weighting.specs.Order.{Order, better, choose}
use Rattle.weighting.proofs.Best.{better-one}
use Rattle.weighting.specs.Cell.{mark, cell_of, held_in}

apart : ◌≡◌ {A = Bool} true false → ⊥
apart e = let z : ◌≡◌ {A = ℕ} 0 1 = cc in omega arith

-- o holds no mark
abbrev pub NoMark : Option ℤ → Type 0
NoMark o = o ≡ some mark → ⊥

pub held_in-mark : held_in mark ≡ none
unfolding held_in
held_in-mark = refl

pub held_in-other : (z : ℤ) → (z ≡ mark → ⊥) → held_in z ≡ some z
unfolding held_in
held_in-other z h = rw (ne_false z mark h)

-- ---- each from the other

pub held_in-cell_of : (o : Option ℤ) → NoMark o → held_in (cell_of o) ≡ o
held_in-cell_of none h = held_in-mark
held_in-cell_of (some z) h = held_in-other z (λ e. h (ap some e))

pub cell_of-held_in : (z : ℤ) → cell_of (held_in z) ≡ z
unfolding held_in
cell_of-held_in z = by (eq_z z mark) refl
  where
    by : (t : Bool) → eq_z z mark ≡ t → cell_of (cond t none (some z)) ≡ z
    by true e = sym (eq-true z mark e)
    by false e = refl

-- ---- what is held is no mark, and a choice among such is none

pub held_in_no_mark : (z : ℤ) → NoMark (held_in z)
unfolding held_in
held_in_no_mark z = by (eq_z z mark) refl
  where
    by : (t : Bool) → eq_z z mark ≡ t → NoMark (cond t none (some z))
    by true e h = none-ne-some mark h
    by false e h =
        let m : z ≡ mark = some-injective z mark h in
        let f : true ≡ false = sym (rw m (eq_self mark)) ∙ e in
        absurd (apart f)

pub choose_no_mark : (O : Order ℤ) (o : Option ℤ) (a : ℤ) → NoMark o → (a ≡ mark → ⊥) → NoMark (choose O o a)
choose_no_mark O none a h k = λ e. k (some-injective a mark e)
choose_no_mark O (some b) a h k = λ e.
    let m : better O b a ≡ mark = some-injective (better O b a) mark e in
    ⊎_elim (λ p. h (ap some (sym p ∙ m))) (λ p. k (sym p ∙ m)) (better-one O b a)

-- ---- the code's test: the mark is the least of i64

pub above-mark : (z : ℤ) → lt_z mark z ≡ true → held_in z ≡ some z
above-mark z h = held_in-other z (λ e. omega (arith, lt_of mark z h, ap up e, ap down e))

pub not-above-mark : (z : ℤ) → SFits w64 z → lt_z mark z ≡ false → z ≡ mark
not-above-mark z p h =
    eq_of z mark (omega (arith, ge_of mark z h, mag_is z, negsuc_is 9_223_372_036_854_775_807, p.sfits))

-- a number below it in size is no mark
pub small_no_mark : (z : ℤ) → nat_abs z < 2 ^ 63 → z ≡ mark → ⊥
small_no_mark z h e = omega (arith, ap nat_abs e)

pub mark-fits : SFits w64 mark
mark-fits = sfits_lit tt

-- ---- the choice as the code makes it

pub chosen_is : (O : Order ℤ) (cell worth : ℤ)
    → SFits w64 cell
    → cond (lt_z mark cell && O.at_least cell worth) cell worth ≡ cell_of (choose O (held_in cell) worth)
unfolding better
chosen_is O cell worth fits = by (lt_z mark cell) refl
  where
    by : (t : Bool) → lt_z mark cell ≡ t → cond (t && O.at_least cell worth) cell worth ≡ cell_of (choose O (held_in cell) worth)
    by true e = rw (above-mark cell e)
    by false e = rw (not-above-mark cell fits e, held_in-mark)
