-- Runs are walks, both ways, with plain clocks and with held ones.
use mathlib.Core.Path.{sym, ap, subst, ◌∙◌}
use Prim.Native.Nat.{ℕ}
use lib.Dec.{T}
use Rattle.weighting.specs.Weighting.{Weighting}
use Rattle.walks.specs.Automaton.{Automaton, View, State, Same}
use Rattle.walks.specs.Holding.{Holding, held_at, hold_state}
use Rattle.walks.specs.Tables.{opening}
use Rattle.walks.specs.Reports.{Arrives}
use Rattle.walks.specs.Claims.{RunsAreWalks, RunsAreHeldWalks}
use Rattle.walks.proofs.WalkToRun.{walk-run}
use Rattle.walks.proofs.RunToWalk.{run-walk}
use Rattle.walks.proofs.Held.{seen, seen_back}

module _ {W C E : Type 0} (𝓦 : Weighting W) (A : Automaton C E) (Q : Same C) (𝓥 : View W) (high : ℕ) where
  pub runs_are_walks : RunsAreWalks 𝓦 A Q 𝓥 high
  runs_are_walks worthy n len w o h =
      (λ k. run-walk 𝓦 A 𝓥 Q high worthy h k.1, λ a. walk-run 𝓦 A 𝓥 Q high worthy o a)

  module _ (hold : C → C) (h : Holding A hold) {n len : ℕ} {w : W} where
    to_held : Arrives 𝓦 A 𝓥 high (opening 𝓦 A Q) n len w → Arrives 𝓦 (held_at hold A) 𝓥 high (opening 𝓦 (held_at hold A) Q) n len w
    to_held a =
        record {
          there = hold_state hold a.there;
          len_is = a.len_is;
          just_entered = a.just_entered;
          at_end = a.at_end;
          reached = seen A hold h 𝓦 Q 𝓥 high a.reached;
        }

    of_held : Arrives 𝓦 (held_at hold A) 𝓥 high (opening 𝓦 (held_at hold A) Q) n len w → Arrives 𝓦 A 𝓥 high (opening 𝓦 A Q) n len w
    of_held a =
        let k = seen_back A hold h 𝓦 Q 𝓥 high a.reached in
        record {
          there = k.0;
          len_is = ap (λ (s : State C). s.len) k.1 ∙ a.len_is;
          just_entered = ap (λ (s : State C). s.entered) k.1 ∙ a.just_entered;
          at_end = subst (λ (s : State C). T (A.is_end s.place)) (sym k.1) a.at_end;
          reached = k.2;
        }

  pub runs_are_held-walks : RunsAreHeldWalks 𝓦 A Q 𝓥 high
  runs_are_held-walks worthy hold k n len w o h =
      let e = runs_are_walks worthy n len w o h in
      (λ r. to_held hold k (e.0 r), λ a. e.1 (of_held hold k a))
