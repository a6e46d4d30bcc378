-- Each cell holds the best of what is reached there. Of the worths nothing is used but that a better part makes no worse
-- a whole.
use mathlib.Core.Path.{◌≡◌, refl, sym, ap, subst}
use mathlib.Core.Bool.{Bool, true, false, not, cond}
use mathlib.Core.Option.{Option, none, some, some-injective, none-ne-some}
use mathlib.Core.Logic.{◌⊎◌, inl, inr, ⊎_elim}
use mathlib.Core.List.{List, Memᴰ}
use Prim.Native.Nat.{ℕ, zero, suc}
use native.Mathlib.Omega.{arith}
use lib.Dec.{T, T_not, eqb, eqb→eq}
use Rattle.integers.proofs.Tests.{true_T, false_T}
use Rattle.weighting.specs.Order.{Order, IsBest, best_of}
use Rattle.weighting.specs.Weighting.{Weighting}
use Rattle.weighting.proofs.Best.{IsBest-more, IsBest_iff, IsBest-same, best_of_best}
use Rattle.walks.specs.Automaton.{Automaton, TickView, View, State, Same}
use Rattle.walks.specs.Walks.{Reach, held, begin, move}
use Rattle.walks.specs.Tables.{Table, opening, offers, offered_to, next, table_at, Closed, Within}
use Rattle.walks.specs.Claims.{TableBest}
use Rattle.walks.proofs.States.{opening-starts, opening-holds}
use Rattle.walks.proofs.Moves.{move_len}
use Rattle.walks.proofs.Offers.{Offered, of_offered_to, to-offered_to, of_offers, to-offers}

-- v comes to x in one tick: it begins there, or it is offered
abbrev pub Comes : {W C E : Type 0} → Weighting W → Automaton C E → Same C → ℕ → List (State C) → TickView W → Table W C → State C → W → Type 0
Comes 𝓦 A Q high all g U x v = (opening 𝓦 A Q x ≡ some v) ⊎ Offered 𝓦 A high g U all x v

-- what one option says is the best of it
option_best : {A : Type 0} (O : Order A) (o : Option A) → IsBest O (λ a. o ≡ some a) o
option_best O none = λ b e. none-ne-some b e
option_best O (some a) = (refl, λ b e. rw (some-injective a b e) (O.self b))

module _ {W C E : Type 0} (𝓦 : Weighting W) (A : Automaton C E) (Q : Same C) (high : ℕ) (all : List (State C)) where
  -- the table one tick later holds the best of what comes
  pub next_best : (g : TickView W) (U : Table W C) (x : State C) → IsBest 𝓦.order (Comes 𝓦 A Q high all g U x) (next 𝓦 A Q high all g U x)
  unfolding next
  next_best g U x = go (eqb x.len 0) refl
    where
      o : Option W
      o = opening 𝓦 A Q x

      l : List W
      l = offered_to Q x (offers 𝓦 A high g U all)

      none-offered : (v : W) → x.len ≡ 0 → Offered 𝓦 A high g U all x v → ⊥
      none-offered v e h = omega (arith, move_len A h.by h.moves)

      none-begun : (v : W) → eqb x.len 0 ≡ false → o ≡ some v → ⊥
      none-begun v e h =
          let k : x.len ≡ 0 = ap (λ (y : State C). y.len) (opening-holds 𝓦 A Q x v h).1 in
          let z : T (not (eqb x.len 0)) = false_T (eqb x.len 0) e in
          T_not (eqb x.len 0) z (rw k tt)

      into : (v : W) → Offered 𝓦 A high g U all x v → Memᴰ v l
      into v h =
          to-offered_to Q x (offers 𝓦 A high g U all) v
          (rw h.is (to-offers 𝓦 A high g U all h.is_a_cell h.holds h.gains h.moves))

      go : (t : Bool) → eqb x.len 0 ≡ t → IsBest 𝓦.order (Comes 𝓦 A Q high all g U x) (cond t o (best_of 𝓦.order l))
      go true e =
          let k : x.len ≡ 0 = eqb→eq x.len 0 (true_T (eqb x.len 0) e) in
          IsBest_iff 𝓦.order (λ v p. inl p) (λ v. ⊎_elim (λ p. p) (λ h. absurd (none-offered v k h))) o (option_best 𝓦.order o)
      go false e =
          IsBest_iff 𝓦.order
          (λ v m. inr (of_offers 𝓦 A high g U all (of_offered_to Q x (offers 𝓦 A high g U all) v m)))
          (λ v. ⊎_elim (λ p. absurd (none-begun v e p)) (into v))
          (best_of 𝓦.order l) (best_of_best 𝓦.order l)

  -- and whatever is the best of what comes, is what the table holds
  pub next-only : (g : TickView W) (U : Table W C) (x : State C) (o : Option W) → IsBest 𝓦.order (Comes 𝓦 A Q high all g U x) o → o ≡ next 𝓦 A Q high all g U x
  next-only g U x o h =
      IsBest-same 𝓦.order 𝓦.equal (Comes 𝓦 A Q high all g U x) o (next 𝓦 A Q high all g U x) h (next_best g U x)

  module _ (closed : Closed A high all) (𝓥 : View W) (T₀ : Table W C) (within : Within all T₀) where
    pub reach_in : {n : ℕ} {s : State C} {w : W} → Reach 𝓦 A 𝓥 high T₀ n s w → Memᴰ s all
    reach_in (held {s = s} {w = w} e) = within s w e
    reach_in (begin {p = p} h) = closed.begins_in p h
    reach_in (move {s = s} {x = x} r e m) = closed.moves_in s x (reach_in r) m

    abbrev U : ℕ → Table W C
    U = table_at 𝓦 A Q high all 𝓥 T₀

    abbrev R : ℕ → State C → W → Type 0
    R = Reach 𝓦 A 𝓥 high T₀

    abbrev Best : ℕ → Type 0
    Best n = (s : State C) → IsBest 𝓦.order (R n s) (U n s)

    held_back : {s : State C} {w : W} → R zero s w → T₀ s ≡ some w
    held_back (held e) = e

    -- what comes is reached
    up : (n : ℕ) → Best n → (x : State C) (v : W) → Comes 𝓦 A Q high all (𝓥 n) (U n) x v → R (suc n) x v
    up n ih x v (inl e) =
        let k = opening-holds 𝓦 A Q x v e in
        rw k.2 (subst (λ (y : State C). R (suc n) y 𝓦.unit) (sym k.1) (begin k.0))
    up n ih x v (inr h) =
        let b : IsBest 𝓦.order (R n h.by) (some h.had) = rw h.holds at (ih h.by) in
        rw h.is (move b.0 h.gains h.moves)

    -- whatever is reached, something no worse comes
    down : (n : ℕ) → Best n → (x : State C) (v : W) → R (suc n) x v → (u : W) × Comes 𝓦 A Q high all (𝓥 n) (U n) x u × T (𝓦.order.at_least u v)
    down n ih x v (begin {p = p} h) = (𝓦.unit, inl (opening-starts 𝓦 A Q p h), 𝓦.order.self 𝓦.unit)
    down n ih x v (move {s = s} {w = w} {g = g} r e m) = go (U n s) refl (ih s)
      where
        go : (o : Option W) → U n s ≡ o → IsBest 𝓦.order (R n s) o → (u : W) × Comes 𝓦 A Q high all (𝓥 n) (U n) x u × T (𝓦.order.at_least u (𝓦.combine w g))
        go none f h = absurd (h w r)
        go (some u) f h = (
          𝓦.combine u g,
          inr (record { by = s; is_a_cell = reach_in r; had = u; holds = f; gain = g; gains = e; moves = m; is = refl }),
          𝓦.monotone u w g (h.1 w r),
        )

    best : (n : ℕ) → Best n
    best zero s = IsBest_iff 𝓦.order (λ w e. held e) (λ w r. held_back r) (T₀ s) (option_best 𝓦.order (T₀ s))
    best (suc n) x =
        IsBest-more 𝓦.order (λ v c. up n (best n) x v c) (λ v r. down n (best n) x v r) (U (suc n) x) (next_best (𝓥 n) (U n) x)

pub table_best : {W C E : Type 0} (𝓦 : Weighting W) (A : Automaton C E) (Q : Same C) (𝓥 : View W) (high : ℕ) → TableBest 𝓦 A Q 𝓥 high
table_best 𝓦 A Q 𝓥 high all closed T₀ within n s = best 𝓦 A Q high all closed 𝓥 T₀ within n s
