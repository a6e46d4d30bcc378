-- What a Bool test's outcome says: as an equation, under `T`, of two tests together, and of a choice by it.
use mathlib.Core.Path.{◌≡◌, refl}
use mathlib.Core.Bool.{Bool, true, false, not, cond, ◌&&◌}
use lib.Dec.{T}

-- it is what it cannot fail to be
pub is_true : (t : Bool) → (t ≡ false → ⊥) → t ≡ true
is_true true h = refl
is_true false h = absurd (h refl)

pub is_false : (t : Bool) → (t ≡ true → ⊥) → t ≡ false
is_false true h = absurd (h refl)
is_false false h = refl

-- an equation, and the same under `T`
pub T_true : (t : Bool) → T t → t ≡ true
T_true true h = refl
T_true false h = absurd h

pub T_false : (t : Bool) → T (not t) → t ≡ false
T_false true h = absurd h
T_false false h = refl

pub true_T : (t : Bool) → t ≡ true → T t
true_T t e = rw e tt

pub false_T : (t : Bool) → t ≡ false → T (not t)
false_T t e = rw e tt

-- two tests together
pub and_l : (a b : Bool) → T (a && b) → T a
and_l true b h = tt
and_l false b h = h

pub and_r : (a b : Bool) → T (a && b) → T b
and_r true b h = h
and_r false b h = absurd h

pub and_in : (a b : Bool) → T a → T b → T (a && b)
and_in true b p q = q
and_in false b p q = p

pub both_true : (a b : Bool) → a ≡ true → b ≡ true → a && b ≡ true
both_true true b p q = q
both_true false b p q = p

-- what holds of both choices, each under its outcome, holds of the choice
pub by_cond : {A : Type 0} (P : A → Type 0) (t : Bool) (x y : A) → (T t → P x) → (T (not t) → P y) → P (cond t x y)
by_cond P true x y f g = f tt
by_cond P false x y f g = g tt
