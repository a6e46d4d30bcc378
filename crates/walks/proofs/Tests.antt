-- The test of two truths, and what a list has that a test lets in.
use mathlib.Core.Path.{◌≡◌, refl}
use mathlib.Core.Bool.{Bool, true, false, cond, beq}
use mathlib.Core.Logic.{◌⊎◌, inl, inr, ⊎_elim}
use mathlib.Core.List.Memᴰ
use mathlib.Core.List.{List, [], ◌∷◌, Memᴰ}
use lib.Dec.{T}

pub beq_eq : (a b : Bool) → T (beq a b) → a ≡ b
beq_eq true true h = refl
beq_eq true false h = absurd h
beq_eq false true h = absurd h
beq_eq false false h = refl

pub beq_self : (a : Bool) → T (beq a a)
beq_self true = tt
beq_self false = tt

module _ {A : Type 0} {x : A} where
  -- a head that a test lets in
  pub of_cond-cons : (b : Bool) (y : A) (l : List A) → Memᴰ x (cond b (y ∷ l) l) → (T b × (x ≡ y)) ⊎ Memᴰ x l
  of_cond-cons true y l m = ⊎_elim (λ e. inl (tt, e)) inr (Memᴰ.cases_cons m)
  of_cond-cons false y l m = inr m

  pub cond-head : (b : Bool) (y : A) (l : List A) → T b → x ≡ y → Memᴰ x (cond b (y ∷ l) l)
  cond-head true y l h e = Memᴰ.head e
  cond-head false y l h e = absurd h

  pub cond-tail : (b : Bool) (y : A) (l : List A) → Memᴰ x l → Memᴰ x (cond b (y ∷ l) l)
  cond-tail true y l m = Memᴰ.tail m
  cond-tail false y l m = m

  -- a list that a test lets in
  pub of_cond : (b : Bool) (l : List A) → Memᴰ x (cond b l []) → T b × Memᴰ x l
  of_cond true l m = (tt, m)
  of_cond false l m = absurd (Memᴰ.not-nil m)

  pub in-cond : (b : Bool) (l : List A) → T b → Memᴰ x l → Memᴰ x (cond b l [])
  in-cond true l h m = m
  in-cond false l h m = absurd h
