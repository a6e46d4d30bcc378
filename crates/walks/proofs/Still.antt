-- Ticks that are all alike but for the first: after high + 1 of them the table and the report stand still.
use mathlib.Core.Path.{◌≡◌, refl, sym, ap, ◌∙◌}
use mathlib.Core.List.{List}
use Prim.Native.Nat.{ℕ, zero, suc, ◌+◌, ◌<◌}
use native.Mathlib.Omega.{arith}
use borrow.Author.Tests.{eq-eqb}
use Rattle.weighting.specs.Weighting.{Weighting}
use Rattle.walks.specs.Automaton.{Automaton, View, TickView, State, Same}
use Rattle.walks.specs.Tables.{Table, next, table_at}
use Rattle.walks.specs.Claims.{Still, StillReports}
use Rattle.walks.proofs.Rows.{only-shorter, reports-only-cells}

module _ {W C E : Type 0} (𝓦 : Weighting W) (A : Automaton C E) (Q : Same C) (high : ℕ) (all : List (State C)) where
  -- a cell of length 0 is the same after every tick
  no_length_lem : (g h : TickView W) (U X : Table W C) (x : State C) → x.len ≡ 0 → next 𝓦 A Q high all g U x ≡ next 𝓦 A Q high all h X x
  unfolding next
  no_length_lem g h U X x e = rw (eq-eqb x.len 0 e) refl

  module _ (𝓥 : View W) (g : TickView W) (alike : (t : ℕ) → 𝓥 (suc t) ≡ g) (T₀ : Table W C) where
    abbrev table : ℕ → Table W C
    table n = table_at 𝓦 A Q high all 𝓥 T₀ n

    -- a cell of fewer ticks than have passed no longer changes
    no_change : (n : ℕ) (x : State C) → x.len < n → table (suc n) x ≡ table n x
    no_change zero x h = absurd (omega arith)
    no_change (suc zero) x h = no_length_lem (𝓥 1) (𝓥 0) (table 1) (table 0) x (omega arith)
    no_change (suc (suc n)) x h =
        ap (λ (f : TickView W). next 𝓦 A Q high all f (table (suc (suc n))) x) (alike (suc n))
        ∙ only-shorter 𝓦 A Q high all g x (table (suc (suc n))) (table (suc n)) (λ s i e. no_change (suc n) s (omega arith))
        ∙ ap (λ (f : TickView W). next 𝓦 A Q high all f (table (suc n)) x) (sym (alike n))

    stands : (n : ℕ) (s : State C) → s.len < suc high → table (suc high + n) s ≡ table (suc high) s
    stands zero s h = let e : suc high + 0 ≡ suc high = omega arith in ap (λ (k : ℕ). table k s) e
    stands (suc n) s h =
        let e : suc high + suc n ≡ suc (suc high + n) = omega arith in
        ap (λ (k : ℕ). table k s) e ∙ no_change (suc high + n) s (omega arith) ∙ stands n s h

  pub still : Still 𝓦 A Q high all
  still 𝓥 g alike T₀ n s h = stands 𝓥 g alike T₀ n s (omega arith)

  pub still-reports : StillReports 𝓦 A Q high all
  still-reports short low 𝓥 g alike T₀ n =
      reports-only-cells 𝓦 A Q high all low (table 𝓥 g alike T₀ (suc high + n)) (table 𝓥 g alike T₀ (suc high)) (λ s m. still 𝓥 g alike T₀ n s (short s m))
