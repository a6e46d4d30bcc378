-- At length 0 a table is as an opening; cutting the ticks into calls changes nothing; only the ticks passed matter, and only
-- the cells.
use mathlib.Core.Path.{◌≡◌, refl, sym, fun_ext}
use mathlib.Core.Bool.{Bool, true, false, cond}
use mathlib.Core.List.{List}
use Prim.Native.Nat.{ℕ, zero, suc, ◌+◌}
use native.Mathlib.Omega.{arith}
use borrow.Author.Tests.{eq-eqb, eqb-true}
use lib.Dec.{eqb}
use Rattle.weighting.specs.Weighting.{Weighting}
use Rattle.walks.specs.Automaton.{Automaton, View, State, Same}
use Rattle.walks.specs.Tables.{opening, next, table_at}
use Rattle.walks.specs.Claims.{EmptyRunHeld, Cut, OnlyPassed, OnlyCells}
use Rattle.walks.proofs.Rows.{only-shorter}

-- to choose what is there already changes nothing
kept_by_lem : {A : Type 0} (t : Bool) (a b : A) → (t ≡ true → a ≡ b) → cond t a b ≡ b
kept_by_lem true a b h = h refl
kept_by_lem false a b h = refl

module _ {W C E : Type 0} (𝓦 : Weighting W) (A : Automaton C E) (Q : Same C) (high : ℕ) (all : List (State C)) where
  pub empty-run-held : EmptyRunHeld 𝓦 A Q high all
  unfolding next
  empty-run-held 𝓥 zero s h = refl
  empty-run-held 𝓥 (suc n) s h = rw (eq-eqb s.len 0 h)

  -- so writing those cells anew changes nothing, and no claim about tables after an opening can tell whether a call does
  pub written_anew : (𝓥 : View W) (n : ℕ) (s : State C)
      → cond (eqb s.len 0) (opening 𝓦 A Q s) (table_at 𝓦 A Q high all 𝓥 (opening 𝓦 A Q) n s) ≡ table_at 𝓦 A Q high all 𝓥 (opening 𝓦 A Q) n s
  written_anew 𝓥 n s = kept_by_lem (eqb s.len 0) _ _ (λ e. sym (empty-run-held 𝓥 n s (eqb-true s.len 0 e)))

  pub cut : Cut 𝓦 A Q high all
  cut 𝓥 𝓥' T₀ m zero h = let e : m + 0 ≡ m = omega arith in rw e
  cut 𝓥 𝓥' T₀ m (suc n) h =
      let e : m + suc n ≡ suc (m + n) = omega arith in
      let v : 𝓥 (m + n) ≡ 𝓥' n = fun_ext (λ f. fun_ext (λ p. h n f p (omega arith))) in
      let k = cut 𝓥 𝓥' T₀ m n (λ t f p l. h t f p (omega arith)) in
      rw e (λ i. next 𝓦 A Q high all (v i) (k i))

  pub only-passed : OnlyPassed 𝓦 A Q high all
  only-passed 𝓥 𝓥' T₀ n h =
      let e : (t : ℕ) → 0 + t ≡ t = λ t. omega arith in
      rw (e n) at (cut 𝓥 𝓥' T₀ 0 n (λ t f p l. rw (e t) (h t f p l)))

  pub only-cells : OnlyCells 𝓦 A Q high all
  only-cells 𝓥 T₀ T₁ h zero s m = h s m
  only-cells 𝓥 T₀ T₁ h (suc n) s m =
      only-shorter 𝓦 A Q high all (𝓥 n) s (table_at 𝓦 A Q high all 𝓥 T₀ n) (table_at 𝓦 A Q high all 𝓥 T₁ n)
      (λ y i _. only-cells 𝓥 T₀ T₁ h n y i)
