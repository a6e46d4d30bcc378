-- What a test over a list says of its members, and members by their number.
use Prim.Native.Nat.{ℕ, zero, suc, ◌<◌}
use native.Mathlib.Omega.{arith}
use mathlib.Core.Path.{◌≡◌, refl, sym, ap, ◌∙◌}
use mathlib.Core.Logic.{⊎_elim}
use mathlib.Core.List.Memᴰ
use mathlib.Core.List.{List, [], ◌∷◌, flat_map, Memᴰ}
use mathlib.Core.Bool.{Bool, true}
use lib.ListN.{length, get_or}
use Rattle.pattern.specs.Slots.{all}
use Rattle.pattern.proofs.SoundLaws.{both}

module _ {A : Type 0} where
  pub all_member : (f : A → Bool) (l : List A) → all f l ≡ true → (x : A) → Memᴰ x l → f x ≡ true
  all_member f [] h x m = absurd (Memᴰ.not-nil m)
  all_member f (y ∷ l) h x m =
      let k = both (f y) (all f l) h in
      ⊎_elim (λ e. ap f e ∙ k.0) (λ i. all_member f l k.1 x i) (Memᴰ.cases_cons m)

  pub all_same : (f g : A → Bool) (l : List A) → ((x : A) → Memᴰ x l → f x ≡ g x) → all f l ≡ all g l
  all_same f g [] h = refl
  all_same f g (y ∷ l) h = rw (h y (Memᴰ.head refl), all_same f g l (λ x m. h x (Memᴰ.tail m)))

  pub at_member : (l : List A) (i : ℕ) (d : A) → i < length l → Memᴰ (get_or l i d) l
  at_member [] i d h = absurd (omega arith)
  at_member (a ∷ l) zero d h = Memᴰ.head refl
  at_member (a ∷ l) (suc i) d h = Memᴰ.tail (at_member l i d (omega arith))

  pub member_at : (l : List A) (a d : A) → Memᴰ a l → (i : ℕ) × (i < length l) × (get_or l i d ≡ a)
  member_at [] a d m = absurd (Memᴰ.not-nil m)
  member_at (x ∷ l) a d m =
      ⊎_elim (λ e. (0, omega arith, sym e)) (λ k. let r = member_at l a d k in (suc r.0, (let h : r.0 < length l = r.1 in omega arith), r.2)) (Memᴰ.cases_cons m)

pub in-flat_map : {A B : Type 0} (f : A → List B) (l : List A) (x : A) (y : B) → Memᴰ x l → Memᴰ y (f x) → Memᴰ y (flat_map f l)
unfolding flat_map
in-flat_map f [] x y m k = absurd (Memᴰ.not-nil m)
in-flat_map {A} {B} f (z ∷ l) x y m k =
    ⊎_elim (λ (e : x ≡ z). Memᴰ.append_left (flat_map f l) (rw e at k)) (λ i. Memᴰ.append_right (f z) (in-flat_map f l x y i k)) (Memᴰ.cases_cons m)
