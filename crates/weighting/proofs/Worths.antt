-- The worth of many together, for an arbitrary weighting.
use mathlib.Core.Path.{◌≡◌, refl, sym, ap, ◌∙◌}
use mathlib.Core.List.{List, [], ◌∷◌, ◌++◌, Memᴰ}
use lib.Dec.{T}
use Rattle.weighting.specs.Weighting.{Weighting, combine_from, combine_all}

-- each of a list is a worth
abbrev pub Worths : {W : Type 0} → Weighting W → List W → Type 0
Worths {W} 𝓦 l = (a : W) → Memᴰ a l → T (𝓦.worth a)

module _ {W : Type 0} (𝓦 : Weighting W) where
  -- ---- a list laid out in two, and one more at its end

  pub combine_from-append : (a : W) (l m : List W) → combine_from 𝓦 a (l ++ m) ≡ combine_from 𝓦 (combine_from 𝓦 a l) m
  unfolding combine_from
  combine_from-append a [] m = refl
  combine_from-append a (x ∷ l) m = combine_from-append (𝓦.combine a x) l m

  pub combine_from_snoc : (a : W) (l : List W) (b : W) → combine_from 𝓦 a (l ++ (b ∷ [])) ≡ 𝓦.combine (combine_from 𝓦 a l) b
  unfolding combine_from
  combine_from_snoc a l b = combine_from-append a l (b ∷ [])

  pub combine_all_snoc : (l : List W) (b : W) → combine_all 𝓦 (l ++ (b ∷ [])) ≡ 𝓦.combine (combine_all 𝓦 l) b
  combine_all_snoc l b = combine_from_snoc 𝓦.unit l b

  -- ---- the first part stands apart

  pub combine_from-combine : (a b : W) (l : List W) → combine_from 𝓦 (𝓦.combine a b) l ≡ 𝓦.combine a (combine_from 𝓦 b l)
  unfolding combine_from
  combine_from-combine a b [] = refl
  combine_from-combine a b (x ∷ l) = rw (𝓦.assoc a b x) (combine_from-combine a (𝓦.combine b x) l)

  pub combine_from-all : (a : W) → T (𝓦.worth a) → (l : List W) → combine_from 𝓦 a l ≡ 𝓦.combine a (combine_all 𝓦 l)
  combine_from-all a h l =
      ap (λ (x : W). combine_from 𝓦 x l) (sym (𝓦.unit_right a h)) ∙ combine_from-combine a 𝓦.unit l

  -- ---- worths

  pub combine_from-worth : (a : W) (l : List W) → T (𝓦.worth a) → Worths 𝓦 l → T (𝓦.worth (combine_from 𝓦 a l))
  unfolding combine_from
  combine_from-worth a [] h k = h
  combine_from-worth a (x ∷ l) h k =
      combine_from-worth (𝓦.combine a x) l (𝓦.combine_worth a x h (k x (Memᴰ.head refl))) (λ b m. k b (Memᴰ.tail m))

  pub combine_all-worth : (l : List W) → Worths 𝓦 l → T (𝓦.worth (combine_all 𝓦 l))
  combine_all-worth l k = combine_from-worth 𝓦.unit l 𝓦.unit_worth k

  pub combine_all-one : (a : W) → T (𝓦.worth a) → combine_all 𝓦 (a ∷ []) ≡ a
  unfolding combine_from
  combine_all-one a h = 𝓦.unit_left a h

  pub combine_all-cons : (a : W) → T (𝓦.worth a) → (l : List W) → combine_all 𝓦 (a ∷ l) ≡ 𝓦.combine a (combine_all 𝓦 l)
  unfolding combine_from
  combine_all-cons a h l = rw (𝓦.unit_left a h) (combine_from-all a h l)

  pub combine_all-append : (l m : List W) → Worths 𝓦 l → combine_all 𝓦 (l ++ m) ≡ 𝓦.combine (combine_all 𝓦 l) (combine_all 𝓦 m)
  combine_all-append l m k =
      combine_from-append 𝓦.unit l m ∙ combine_from-all (combine_all 𝓦 l) (combine_all-worth l k) m

  -- ---- a better part makes no worse a whole

  pub combine_from-monotone : (a b : W) (l : List W) → T (𝓦.order.at_least a b) → T (𝓦.order.at_least (combine_from 𝓦 a l) (combine_from 𝓦 b l))
  unfolding combine_from
  combine_from-monotone a b [] h = h
  combine_from-monotone a b (x ∷ l) h =
      combine_from-monotone (𝓦.combine a x) (𝓦.combine b x) l (𝓦.monotone a b x h)
