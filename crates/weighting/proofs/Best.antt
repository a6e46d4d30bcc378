-- The better of two, and the best: of what has a property, of one more, and of a list. Nothing of the worths is used
-- but their order.
use mathlib.Core.Path.{◌≡◌, refl, ap}
use mathlib.Core.Bool.{true, false}
use mathlib.Core.Option.{Option, none, some}
use mathlib.Core.Logic.{◌⊎◌, inl, inr, ⊎_elim}
use mathlib.Core.List.Memᴰ
use mathlib.Core.List.{List, [], ◌∷◌, ◌++◌, Memᴰ}
use lib.Dec.{T}
use Rattle.integers.proofs.Tests.{by_cond}
use Rattle.weighting.specs.Order.{Order, IsBest, better, choose, best_from, best_of}

module _ {A : Type 0} (O : Order A) where
  -- ---- the better of two

  pub better-one : (a b : A) → (better O a b ≡ a) ⊎ (better O a b ≡ b)
  unfolding better
  better-one a b = by_cond (λ x. (x ≡ a) ⊎ (x ≡ b)) (O.at_least a b) a b (λ _. inl refl) (λ _. inr refl)

  pub better-first : (a b : A) → T (O.at_least (better O a b) a)
  unfolding better
  better-first a b = by_cond (λ x. T (O.at_least x a)) (O.at_least a b) a b (λ _. O.self a) (λ h. O.either a b h)

  pub better-second : (a b : A) → T (O.at_least (better O a b) b)
  unfolding better
  better-second a b = by_cond (λ x. T (O.at_least x b)) (O.at_least a b) a b (λ h. h) (λ _. O.self b)

  -- which it is, by the test
  pub better-keeps : (a b : A) → O.at_least a b ≡ true → better O a b ≡ a
  unfolding better
  better-keeps a b e = rw e

  pub better-takes : (a b : A) → O.at_least a b ≡ false → better O a b ≡ b
  unfolding better
  better-takes a b e = rw e

  -- ---- the best of what has a property

  -- what has Q is what has P, and more that is no better
  pub IsBest-more : {P Q : A → Type 0} → ((a : A) → P a → Q a) → ((b : A) → Q b → (a : A) × P a × T (O.at_least a b)) → (o : Option A) → IsBest O P o → IsBest O Q o
  IsBest-more up down none h = λ b q. h (down b q).0 (down b q).1
  IsBest-more up down (some a) h =
      (up a h.0, λ b q. O.through a (down b q).0 b (h.1 (down b q).0 (down b q).1) (down b q).2)

  pub IsBest_iff : {P Q : A → Type 0} → ((a : A) → P a → Q a) → ((a : A) → Q a → P a) → (o : Option A) → IsBest O P o → IsBest O Q o
  IsBest_iff up down o h = IsBest-more up (λ b q. (b, down b q, O.self b)) o h

  -- where as good as each other is the same, there is one best
  pub IsBest-same : ((a b : A) → T (O.at_least a b) → T (O.at_least b a) → a ≡ b) → (P : A → Type 0) (o p : Option A) → IsBest O P o → IsBest O P p → o ≡ p
  IsBest-same equal P none none h k = refl
  IsBest-same equal P none (some b) h k = absurd (h b k.0)
  IsBest-same equal P (some a) none h k = absurd (k a h.0)
  IsBest-same equal P (some a) (some b) h k = ap some (equal a b (h.1 b k.0) (k.1 a h.0))

  -- one more to choose from
  pub choose_best : (P : A → Type 0) (o : Option A) (b : A) → IsBest O P o → IsBest O (λ a. P a ⊎ (a ≡ b)) (choose O o b)
  choose_best P none b h = (inr refl, λ c. ⊎_elim (λ p. absurd (h c p)) (λ p. rw p (O.self b)))
  choose_best P (some a) b h = (
    ⊎_elim (λ e. inl (rw e h.0)) inr (better-one a b),
    λ c.
        ⊎_elim (λ p. O.through (better O a b) a c (better-first a b) (h.1 c p)) (λ p. rw p (better-second a b)),
  )

  -- ---- the best of a list

  pub best_from_best : (P : A → Type 0) (o : Option A) (l : List A) → IsBest O P o → IsBest O (λ a. P a ⊎ Memᴰ a l) (best_from O o l)
  unfolding best_from
  best_from_best P o [] h =
      IsBest_iff (λ a p. inl p) (λ a. ⊎_elim (λ p. p) (λ m. absurd (Memᴰ.not-nil m))) o h
  best_from_best P o (x ∷ l) h =
      IsBest_iff
      (λ a. ⊎_elim (⊎_elim inl (λ e. inr (Memᴰ.head e))) (λ m. inr (Memᴰ.tail m)))
      (λ a. ⊎_elim (λ p. inl (inl p)) (λ m. ⊎_elim (λ e. inl (inr e)) inr (Memᴰ.cases_cons m)))
      (best_from O (choose O o x) l)
      (best_from_best (λ a. P a ⊎ (a ≡ x)) (choose O o x) l (choose_best P o x h))

  pub best_of_best : (l : List A) → IsBest O (λ a. Memᴰ a l) (best_of O l)
  best_of_best l =
      IsBest_iff (λ a. ⊎_elim absurd (λ m. m)) (λ a m. inr m) (best_of O l) (best_from_best (λ _. ⊥) none l (λ a p. p))

  -- a list laid out in two, and one more at its end
  pub best_from-append : (o : Option A) (l m : List A) → best_from O o (l ++ m) ≡ best_from O (best_from O o l) m
  unfolding best_from
  best_from-append o [] m = refl
  best_from-append o (x ∷ l) m = best_from-append (choose O o x) l m

  pub best_of-append : (l m : List A) → best_of O (l ++ m) ≡ best_from O (best_of O l) m
  best_of-append l m = best_from-append none l m

  pub best_of_snoc : (l : List A) (a : A) → best_of O (l ++ (a ∷ [])) ≡ choose O (best_of O l) a
  unfolding best_from
  best_of_snoc l a = best_from-append none l (a ∷ [])
