-- The test of two states, and what the opening table holds.
use mathlib.Core.Path.{◌≡◌, sym, ap}
use mathlib.Core.Bool.{Bool, true, false, cond, ◌&&◌}
use mathlib.Core.Option.{none, some, some-injective, none-ne-some}
use Prim.Native.Nat.{ℕ}
use lib.Dec.{T, eqb→eq, eqb_refl}
use Rattle.integers.proofs.Tests.{T_true, and_l, and_r, and_in}
use Rattle.weighting.specs.Weighting.{Weighting}
use Rattle.walks.specs.Automaton.{Automaton, State, entering, Same, same_state}
use Rattle.walks.specs.Tables.{opening}
use Rattle.walks.proofs.Tests.{beq_eq, beq_self}

pub same_eq : {C : Type 0} (Q : Same C) (s x : State C) → T (same_state Q s x) → s ≡ x
unfolding same_state
same_eq Q s x h =
    let a : s.len ≡ x.len = eqb→eq s.len x.len (search and_l) in
    let b : s.entered ≡ x.entered = beq_eq s.entered x.entered (search (and_l, and_r)) in
    let p : s.place ≡ x.place = eqb→eq s.place x.place (search (and_l, and_r)) in
    let c : s.clocks ≡ x.clocks = Q.same_eq s.clocks x.clocks (search (and_l, and_r)) in
    λ i. record { len = a i; entered = b i; place = p i; clocks = c i }

pub same_self : {C : Type 0} (Q : Same C) (s : State C) → T (same_state Q s s)
unfolding same_state
same_self Q s = search (and_in, eqb_refl, beq_self, Q.same_self) depth 12

module _ {W C E : Type 0} (𝓦 : Weighting W) (A : Automaton C E) (Q : Same C) where
  pub opening-starts : (p : ℕ) → T (A.is_start p) → opening 𝓦 A Q (entering A p) ≡ some 𝓦.unit
  unfolding opening
  opening-starts p h =
      let e : A.is_start p && same_state Q (entering A p) (entering A p) ≡ true =
      T_true (A.is_start p && same_state Q (entering A p) (entering A p)) (and_in (A.is_start p) (same_state Q (entering A p) (entering A p)) h (same_self Q (entering A p))) in
      ap (λ (b : Bool). cond b (some 𝓦.unit) none) e

  -- what is held at the opening has just begun
  pub opening-holds : (s : State C) (w : W) → opening 𝓦 A Q s ≡ some w → T (A.is_start s.place) × (s ≡ entering A s.place) × (w ≡ 𝓦.unit)
  unfolding opening
  opening-holds s w e =
      go (A.is_start s.place) (same_state Q s (entering A s.place)) (same_eq Q s (entering A s.place)) e
    where
      go : (a b : Bool) → (T b → s ≡ entering A s.place) → cond (a && b) (some 𝓦.unit) none ≡ some w → T a × (s ≡ entering A s.place) × (w ≡ 𝓦.unit)
      go true true h e = (tt, h tt, sym (some-injective 𝓦.unit w e))
      go true false h e = absurd (none-ne-some w e)
      go false b h e = absurd (none-ne-some w e)
