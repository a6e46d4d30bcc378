-- One report more, as the code tells the cases apart; the same report again; and all reports of a stretch of ends.
use Prim.Native.Nat.{ℕ, zero, suc, ◌+◌, ◌<◌}
use native.Mathlib.Omega.{arith}
use mathlib.Core.Path.{◌≡◌, refl, ap, ◌∙◌}
use mathlib.Core.List.{List}
use mathlib.Core.Option.{Option, none, some}
use mathlib.Core.Bool.{Bool, true, false, cond}
use lib.Dec.{T}
use lib.ListN.{get_or}
use lib.IntN.{ℤ, pos}
use Rattle.weighting.proofs.Weightings.{weighting_of}
use Rattle.pattern.specs.declared.Pattern.{Pattern}
use Rattle.record.specs.Record.{Book}
use Rattle.best.specs.Best.{Chosen, chosen_with, chosen_to, score_at, length_at}
use Rattle.best.specs.Search.{chosen_past}

module _ (p : Pattern) (end : ℕ) (score : ℤ) where
  pub no_run : (o : Option Chosen) (len : ℕ) → len ≡ 0 → o ≡ chosen_with p o end score len
  unfolding chosen_with
  no_run o len e = rw e

  -- the same report again at a later end: the earliest of equals stays
  module _ (later : ℕ) where
    stays : (f : Chosen) (len : ℕ) → (weighting_of p.weighing).order.at_least f.score score ≡ true → chosen_with p (some f) later score len ≡ some f
    unfolding chosen_with
    stays f zero e = refl
    stays f (suc len) e = rw e

    no_worse : (weighting_of p.weighing).order.at_least score score ≡ true
    no_worse = by ((weighting_of p.weighing).order.at_least score score) ((weighting_of p.weighing).order.self score)
      where
        by : (x : Bool) → T x → x ≡ true
        by true h = refl
        by false h = absurd h

    pub same_again : (o : Option Chosen) (len : ℕ) → chosen_with p (chosen_with p o end score len) later score len ≡ chosen_with p o end score len
    unfolding chosen_with
    same_again o zero = refl
    same_again none (suc len) = stays (record { end = end; len = suc len; score = score }) (suc len) no_worse
    same_again (some f) (suc len) = by ((weighting_of p.weighing).order.at_least f.score score) refl
      where
        by : (x : Bool) → (weighting_of p.weighing).order.at_least f.score score ≡ x
            → chosen_with p (cond x (some f) (some (record { end = end; len = suc len; score = score }))) later score (suc len)
            ≡ cond x (some f) (some (record { end = end; len = suc len; score = score }))
        by true e = stays f (suc len) e
        by false e = stays (record { end = end; len = suc len; score = score }) (suc len) no_worse

  -- a run, and none before it
  pub first_run : (len : ℕ) → ¬ len ≡ 0 → some (record { end = end; len = len; score = score }) ≡ chosen_with p none end score len
  unfolding chosen_with
  first_run zero a = absurd (a refl)
  first_run (suc len) a = refl

  -- a run that is no better than the one before it, or better
  pub kept_run : (f : Chosen) (len : ℕ) → ¬ len ≡ 0 → (weighting_of p.weighing).order.at_least f.score score ≡ true
      → some f ≡ chosen_with p (some f) end score len
  unfolding chosen_with
  kept_run f zero a c = absurd (a refl)
  kept_run f (suc len) a c = rw c

  pub better-run : (f : Chosen) (len : ℕ) → ¬ len ≡ 0 → (weighting_of p.weighing).order.at_least f.score score ≡ false
      → some (record { end = end; len = len; score = score }) ≡ chosen_with p (some f) end score len
  unfolding chosen_with
  better-run f zero a c = absurd (a refl)
  better-run f (suc len) a c = rw c

module _ (p : Pattern) (b : Book) (n : ℕ) (ss : List ℤ) (ls : List ℕ) where
  -- the reports of the ends after n, looked at one by one
  pub past_is : (o : Option Chosen) (i : ℕ) → o ≡ chosen_to p b n
      → ((j : ℕ) → j < i → (get_or ss j (pos 0) ≡ score_at p b (n + j + 1)) × (get_or ls j 0 ≡ length_at p b (n + j + 1)))
      → chosen_past p o n ss ls i ≡ chosen_to p b (n + i)
  unfolding chosen_past chosen_to
  past_is o zero e h = e ∙ (let z : n ≡ n + 0 = omega arith in ap (chosen_to p b) z)
  past_is o (suc i) e h =
      let z : suc (n + i) ≡ n + i + 1 = omega arith in
      let y : n + suc i ≡ suc (n + i) = omega arith in
      let r = h i (omega arith) in
      rw (past_is o i e (λ j l. h j (omega arith)), r.0, r.1, y, ← z)
