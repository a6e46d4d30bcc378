-- The best run at an end of document 01's record: all four pairs of stays are looked at.
use Prim.Native.Nat.{ℕ, ◌+◌, ◌≤◌, ◌<◌}
use native.Mathlib.Omega.{arith}
use mathlib.Core.Path.{◌≡◌, refl, sym, ap, subst, ◌∙◌}
use mathlib.Core.Logic.{⊎_elim}
use mathlib.Core.List.{List}
use mathlib.Core.Option.{some, some-injective}
use mathlib.Core.Bool.{Bool, true, false, not, ◌&&◌, ◌||◌}
use borrow.Author.Tests.{leb-true}
use lib.Dec.{T, leb}
use lib.IntN.{ℤ, pos}
use Rattle.integers.specs.Equal.{eq_z}
use Rattle.integers.proofs.Equal.{eq_self}
use Rattle.weighting.specs.declared.Weighing.{Weighing}
use Rattle.weighting.proofs.Weightings.{weighting_of}
use Rattle.pattern.proofs.SoundLaws.{both}
use Rattle.record.specs.Run.{Step, length_of}
use Rattle.record.specs.Worth.{price_of}
use Rattle.monitor.specs.Demand.{InWindow, BestRun, NoRun}
use Rattle.pattern_text.specs.Example.{example}
use Rattle.starred.specs.Example.{book}
use Rattle.starred.proofs.Runs.{two, Two, runs_are, priced_run}

module _ (w : Weighing) where
  -- v is no better than the score, and longer if it is as good
  abbrev pub good : ℤ → ℕ → ℕ → ℤ → Bool
  good score len m v = (weighting_of w).order.at_least score v && (not (eq_z v score) || leb len m)

  -- what is known of the runs with these stays that have this end
  abbrev pub Looked : ℕ → (ℕ → ℤ → Bool) → ℕ → ℕ → Type 0
  Looked end ok a b = (begin : ℕ) (v : ℤ) → begin + (a + b) ≡ end → price_of (example w) book begin (two a b) ≡ some v → ok (a + b) v ≡ true

  pub too_long_lem : (end : ℕ) (ok : ℕ → ℤ → Bool) (a b : ℕ) → end < a + b → Looked end ok a b
  too_long_lem end ok a b h begin v e q = absurd (omega arith)

  pub looked : (end : ℕ) (ok : ℕ → ℤ → Bool) (a b k : ℕ) (c : ℤ) → k + (a + b) ≡ end → price_of (example w) book k (two a b) ≡ some c → ok (a + b) c ≡ true → Looked end ok a b
  looked end ok a b k c h price fine begin v e q =
      let same : begin ≡ k = omega arith in
      let is : some c ≡ some v = sym price ∙ ap (λ (n : ℕ). price_of (example w) book n (two a b)) (sym same) ∙ q in
      subst (λ (x : ℤ). ok (a + b) x ≡ true) (some-injective c v is) fine

  pub record All (end : ℕ) (ok : ℕ → ℤ → Bool) : Type 0 where
    pub one_one : Looked end ok 1 1
    pub one_two : Looked end ok 1 2
    pub two_one : Looked end ok 2 1
    pub two_two : Looked end ok 2 2

  by_shape : (end : ℕ) (ok : ℕ → ℤ → Bool) → All end ok → (m begin : ℕ) (v : ℤ) (xs : List Step)
      → price_of (example w) book begin xs ≡ some v → length_of xs ≡ m → begin + m ≡ end → Two xs → ok m v ≡ true
  unfolding length_of
  by_shape end ok all m begin v xs price lasts ends =
      ⊎_elim (λ e. at 1 1 all.one_one e)
      (⊎_elim (λ e. at 1 2 all.one_two e)
      (⊎_elim (λ e. at 2 1 all.two_one e) (λ e. at 2 2 all.two_two e)))
    where
      at : (a b : ℕ) → Looked end ok a b → xs ≡ two a b → ok m v ≡ true
      at a b l e =
          let n : a + (b + 0) ≡ m = sym (ap length_of e) ∙ lasts in
          let s : a + b ≡ m = omega arith in
          subst (λ (k : ℕ). ok k v ≡ true) s (l begin v (omega arith) (ap (price_of (example w) book begin) (sym e) ∙ price))

  every : (end : ℕ) (ok : ℕ → ℤ → Bool) → All end ok → (m : ℕ) (v : ℤ) → InWindow (example w) book end m v → ok m v ≡ true
  every end ok all m v i =
      let r = i.run in
      by_shape end ok all m i.begin v r.steps r.price r.lasts r.ends
      (runs_are w r.steps (priced_run w book i.begin r.steps v r.price))

  pub best_run : (end : ℕ) (score : ℤ) (len : ℕ) → InWindow (example w) book end len score → All end (good score len) → BestRun (example w) book end score len
  best_run end score len there all =
      record {
        attained = there;
        none_better = λ m v i. holds _ (both ((weighting_of w).order.at_least score v) _ (every end (good score len) all m v i)).0;
        none_shorter = λ m i. shorter m (both ((weighting_of w).order.at_least score score) _ (every end (good score len) all m score i)).1;
      }
    where
      holds : (x : Bool) → x ≡ true → T x
      holds x e = subst T (sym e) tt

      shorter : (m : ℕ) → not (eq_z score score) || leb len m ≡ true → len ≤ m
      shorter m e = leb-true len m (subst (λ (x : Bool). not x || leb len m ≡ true) (eq_self score) e)

-- at end 1 no pair of stays has room
pub no_run : (w : Weighing) → NoRun (example w) book 1 (pos 0) 0
no_run w =
    let all : All w 1 (λ m v. false) =
    record {
      one_one = too_long_lem w 1 (λ m v. false) 1 1 (omega arith);
      one_two = too_long_lem w 1 (λ m v. false) 1 2 (omega arith);
      two_one = too_long_lem w 1 (λ m v. false) 2 1 (omega arith);
      two_two = too_long_lem w 1 (λ m v. false) 2 2 (omega arith);
    } in
    record {
      no_score = refl;
      no_length = refl;
      none = λ m v i. let e : false ≡ true = every w 1 (λ m v. false) all m v i in let z : ◌≡◌ {A = ℕ} 0 1 = cc in omega arith;
    }
