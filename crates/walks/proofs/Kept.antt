-- What every move keeps, every cell has.
use mathlib.Core.Path.{◌≡◌, ap}
use mathlib.Core.Option.{some}
use mathlib.Core.Logic.{⊎_elim}
use mathlib.Core.List.{List, Memᴰ}
use Prim.Native.Nat.{ℕ, zero, suc}
use Rattle.weighting.specs.Order.{IsBest}
use Rattle.weighting.specs.Weighting.{Weighting}
use Rattle.walks.specs.Automaton.{Automaton, State, Same}
use Rattle.walks.specs.Tables.{opening, table_at}
use Rattle.walks.specs.Claims.{Kept}
use Rattle.walks.proofs.States.{opening-holds}
use Rattle.walks.proofs.Moves.{move_len}
use Rattle.walks.proofs.Offers.{Offered}
use Rattle.walks.proofs.TableBest.{Comes, next_best}

pub kept : {W C E : Type 0} (𝓦 : Weighting W) (A : Automaton C E) (Q : Same C) (high : ℕ) (all : List (State C)) → Kept 𝓦 A Q high all
kept 𝓦 A Q high all P begun 𝓥 grows T₀ h zero s w m e = h s w m e
kept {W} {C} 𝓦 A Q high all P begun 𝓥 grows T₀ h (suc n) x v m e =
    let b : IsBest 𝓦.order (Comes 𝓦 A Q high all (𝓥 n) (table_at 𝓦 A Q high all 𝓥 T₀ n) x) (some v) =
    rw e at (next_best 𝓦 A Q high all (𝓥 n) (table_at 𝓦 A Q high all 𝓥 T₀ n) x) in
    ⊎_elim begins (moves (λ s w i f. kept 𝓦 A Q high all P begun 𝓥 grows T₀ h n s w i f)) b.0
  where
    begins : opening 𝓦 A Q x ≡ some v → P x.len v
    begins o =
        let k = opening-holds 𝓦 A Q x v o in
        let z : x.len ≡ 0 = ap (λ (s : State C). s.len) k.1 in
        rw (z, k.2) begun

    moves : ((s : State C) (w : W) → Memᴰ s all → table_at 𝓦 A Q high all 𝓥 T₀ n s ≡ some w → P s.len w) → Offered 𝓦 A high (𝓥 n) (table_at 𝓦 A Q high all 𝓥 T₀ n) all x v → P x.len v
    moves ih o =
        rw (move_len A o.by o.moves, o.is)
        (grows n o.by.entered o.by.place o.gain o.by.len o.had o.gains (ih o.by o.had o.is_a_cell o.holds))
