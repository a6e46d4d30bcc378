-- A run's worth is the worth of all its ticks' gains together, however they are laid out in stays.
use mathlib.Core.Path.{◌≡◌, refl, sym, ap, subst, ◌∙◌}
use mathlib.Core.Bool.{Bool, true, false, cond}
use mathlib.Core.Option.{Option, none, some, map, some-injective, none-ne-some}
use mathlib.Core.Logic.{⊎_elim}
use mathlib.Core.List.Memᴰ
use mathlib.Core.List.{List, [], ◌∷◌, ◌++◌}
use Prim.Native.Nat.{ℕ, zero, suc, ◌+◌}
use native.Mathlib.Omega.{arith}
use native.Mathlib.Numerals.{add-one}
use borrow.Author.Tests.{ne_eqb}
use lib.Dec.{T, eqb}
use Rattle.weighting.specs.Weighting.{Weighting, combine_all}
use Rattle.weighting.proofs.Worths.{Worths, combine_all-cons, combine_all-append, combine_all-worth}
use Rattle.walks.specs.Automaton.{Automaton, View}
use Rattle.walks.specs.Runs.{Step, cons_if, stay_gains, together, stay_worths, run_worth}
use Rattle.walks.specs.Claims.{Worthy}

-- one list after another, if there are both
abbrev pub append_if : {A : Type 0} → Option (List A) → Option (List A) → Option (List A)
append_if none m = none
append_if (some l) none = none
append_if (some l) (some m) = some (l ++ m)

-- the gains of all ticks of the steps from time t on, the first tick seen with the flag f
unfoldable pub gains : {W C E : Type 0} → Automaton C E → View W → Bool → ℕ → List (Step E) → Option (List W)
gains A 𝓥 f t [] = some []
gains A 𝓥 f t (x ∷ xs) =
    append_if (stay_gains 𝓥 f t (A.source x.edge) x.stay) (gains A 𝓥 true (t + x.stay) xs)

-- ---- what there is of both

module _ {A : Type 0} where
  pub cons_if-some : (o : Option A) (l : Option (List A)) (m : List A) → cons_if o l ≡ some m → (a : A) × (k : List A) × (o ≡ some a) × (l ≡ some k) × (m ≡ a ∷ k)
  cons_if-some none l m e = absurd (none-ne-some m e)
  cons_if-some (some a) none m e = absurd (none-ne-some m e)
  cons_if-some (some a) (some k) m e = (a, k, refl, refl, sym (some-injective (a ∷ k) m e))

  pub append_if-some : (o p : Option (List A)) (m : List A) → append_if o p ≡ some m → (a b : List A) × (o ≡ some a) × (p ≡ some b) × (m ≡ a ++ b)
  append_if-some none p m e = absurd (none-ne-some m e)
  append_if-some (some a) none m e = absurd (none-ne-some m e)
  append_if-some (some a) (some b) m e = (a, b, refl, refl, sym (some-injective (a ++ b) m e))

  pub append_if-cons_if : (a : A) (o p : Option (List A)) → append_if (cons_if (some a) o) p ≡ cons_if (some a) (append_if o p)
  append_if-cons_if a none p = refl
  append_if-cons_if a (some l) none = refl
  append_if-cons_if a (some l) (some m) = refl

-- ---- the worth of all ticks

module _ {W : Type 0} (𝓦 : Weighting W) where
  together-cons : (w : W) → T (𝓦.worth w) → (o : Option (List W)) → together 𝓦 (cons_if (some w) o) ≡ map (𝓦.combine w) (together 𝓦 o)
  together-cons w h none = refl
  together-cons w h (some l) = ap some (combine_all-cons 𝓦 w h l)

  together-append : (l : List W) → Worths 𝓦 l → (o : Option (List W)) → together 𝓦 (append_if (some l) o) ≡ map (𝓦.combine (combine_all 𝓦 l)) (together 𝓦 o)
  together-append l h none = refl
  together-append l h (some m) = ap some (combine_all-append 𝓦 l m h)

  module _ (𝓥 : View W) (worthy : Worthy 𝓦 𝓥) where
    stay_worths_lem : (n : ℕ) (f : Bool) (t p : ℕ) (l : List W) → stay_gains 𝓥 f t p n ≡ some l → Worths 𝓦 l
    unfolding stay_gains
    stay_worths_lem zero f t p l e =
        subst (Worths 𝓦) (some-injective [] l e) (λ a m. absurd (Memᴰ.not-nil m))
    stay_worths_lem (suc n) f t p l e =
        let k = cons_if-some (𝓥 t f p) (stay_gains 𝓥 false (suc t) p n) l e in
        subst (Worths 𝓦) (sym k.4) (λ a m.
        ⊎_elim (λ q. rw q (worthy t f p k.0 k.2)) (λ i. stay_worths_lem n false (suc t) p k.1 k.3 a i) (Memᴰ.cases_cons m))

    -- a stay, and what is known of the rest
    one-stay : (o p q : Option (List W)) → ((l : List W) → o ≡ some l → Worths 𝓦 l) → together 𝓦 p ≡ together 𝓦 q → together 𝓦 (cons_if (together 𝓦 o) p) ≡ together 𝓦 (append_if o q)
    one-stay none p q h e = refl
    one-stay (some l) p q h e =
        together-cons (combine_all 𝓦 l) (combine_all-worth 𝓦 l (h l refl)) p
        ∙ ap (map (𝓦.combine (combine_all 𝓦 l))) e
        ∙ sym (together-append l (h l refl) q)

    pub run-gains : {C E : Type 0} (A : Automaton C E) (xs : List (Step E)) (t : ℕ) → run_worth 𝓦 A 𝓥 t xs ≡ together 𝓦 (gains A 𝓥 true t xs)
    unfolding run_worth stay_worths gains
    run-gains A [] t = refl
    run-gains A (x ∷ xs) t =
        one-stay (stay_gains 𝓥 true t (A.source x.edge) x.stay) (stay_worths 𝓦 A 𝓥 (t + x.stay) xs) (gains A 𝓥 true (t + x.stay) xs)
        (stay_worths_lem x.stay true t (A.source x.edge))
        (run-gains A xs (t + x.stay))

-- ---- a stay that is one tick longer, at its end or at its begin, and a stay of one tick

either_way : (t : Bool) → cond t false false ≡ false
either_way true = refl
either_way false = refl

-- a tick is not the first after one
pub not_first : (n : ℕ) → eqb (suc n) 0 ≡ false
not_first n = ne_eqb (suc n) 0 (λ e. omega arith)

pub stay-more : {W : Type 0} (𝓥 : View W) (n : ℕ) (f : Bool) (t p : ℕ) (l : List W) (g : W) → stay_gains 𝓥 f t p n ≡ some l
    → 𝓥 (t + n) (cond (eqb n 0) f false) p ≡ some g → stay_gains 𝓥 f t p (suc n) ≡ some (l ++ (g ∷ []))
unfolding stay_gains
stay-more 𝓥 zero f t p l g e h =
    let z : t + 0 ≡ t = omega arith in
    let o : 𝓥 t f p ≡ some g = rw z at h in
    rw (o, ← some-injective [] l e)
stay-more {W} 𝓥 (suc n) f t p l g e h =
    let k = cons_if-some (𝓥 t f p) (stay_gains 𝓥 false (suc t) p n) l e in
    let z : t + suc n ≡ suc t + n = omega arith in
    let o : 𝓥 (suc t + n) (cond (eqb n 0) false false) p ≡ some g = rw (either_way (eqb n 0), ← z) (rw (not_first n) at h) in
    ap (λ (q : Option W). cons_if q (stay_gains 𝓥 false (suc t) p (suc n))) k.2
    ∙ ap (cons_if (some k.0)) (stay-more 𝓥 n false (suc t) p k.1 g k.3 o)
    ∙ ap (λ (m : List W). some (m ++ (g ∷ []))) (sym k.4)

module _ {W C E : Type 0} (A : Automaton C E) (𝓥 : View W) where
  pub gains-longer : (f : Bool) (t : ℕ) (e : E) (n : ℕ) (xs : List (Step E)) (g : W) (gs : List W)
      → 𝓥 t f (A.source e) ≡ some g
      → gains A 𝓥 false (suc t) (record { edge = e; stay = n } ∷ xs) ≡ some gs
      → gains A 𝓥 f t (record { edge = e; stay = suc n } ∷ xs) ≡ some (g ∷ gs)
  unfolding gains stay_gains
  gains-longer f t e n xs g gs o r =
      let k : t + suc n ≡ suc t + n = omega arith in
      rw (o, k) (append_if-cons_if g (stay_gains 𝓥 false (suc t) (A.source e) n) (gains A 𝓥 true (suc t + n) xs) ∙ ap (cons_if (some g)) r)

  pub gains-one : (f : Bool) (t : ℕ) (e : E) (xs : List (Step E)) (g : W) (gs : List W)
      → 𝓥 t f (A.source e) ≡ some g
      → gains A 𝓥 true (suc t) xs ≡ some gs
      → gains A 𝓥 f t (record { edge = e; stay = 1 } ∷ xs) ≡ some (g ∷ gs)
  unfolding gains stay_gains
  gains-one f t e xs g gs o r = rw (o, add-one t, r)
