-- The runs of document 01's pattern: two steps, each of 1 or 2 ticks.
use Prim.Native.Nat.{ℕ, zero, suc, ◌+◌, ◌≤◌, ◌<◌}
use native.Mathlib.Omega.{arith}
use mathlib.Core.Path.{◌≡◌, refl, sym, ap, subst}
use mathlib.Core.Logic.{◌⊎◌, inl, inr, ⊎_elim}
use mathlib.Core.List.{List, [], ◌∷◌, zip_with}
use mathlib.Core.Option.{none, some, none-ne-some}
use mathlib.Core.Bool.{Bool, true, false, cond, ◌&&◌}
use borrow.Author.Tests.{ltb-true, leb-true}
use lib.Dec.{ltb, leb}
use lib.ListN.{length}
use lib.IntN.{ℤ}
use Rattle.weighting.specs.declared.Weighing.{Weighing}
use Rattle.pattern.specs.InUse.{place_at, edge_at}
use Rattle.pattern.specs.Kinds.{is_start}
use Rattle.pattern.specs.Clocks.{Clocks, zero_clocks, later, guards_hold, after_resets}
use Rattle.pattern.proofs.SoundLaws.{both}
use Rattle.record.specs.Record.{Book}
use Rattle.record.specs.Run.{Step, can_step, goes, is_run, length_of}
use Rattle.record.specs.Worth.{price_of, run_worth}
use Rattle.record.proofs.StepLaws.{can-parts}
use Rattle.pattern_text.specs.Example.{example}

no : ◌≡◌ {A = Bool} false true → ⊥
no e = let z : ◌≡◌ {A = ℕ} 0 1 = cc in omega arith

-- the two edges one after the other
abbrev pub two : ℕ → ℕ → List Step
two a b = record { edge = 0; stay = a } ∷ record { edge = 1; stay = b } ∷ []

abbrev pub Two : List Step → Type 0
Two xs = (xs ≡ two 1 1) ⊎ (xs ≡ two 1 2) ⊎ (xs ≡ two 2 1) ⊎ (xs ≡ two 2 2)

small : (n : ℕ) → 1 ≤ n → n ≤ 2 → (n ≡ 1) ⊎ (n ≡ 2)
small zero a b = absurd (omega arith)
small (suc zero) a b = inl refl
small (suc (suc zero)) a b = inr refl
small (suc (suc (suc n))) a b = absurd (omega arith)

pairs : (a b : ℕ) → (a ≡ 1) ⊎ (a ≡ 2) → (b ≡ 1) ⊎ (b ≡ 2) → Two (two a b)
pairs a b =
    ⊎_elim
    (λ e. ⊎_elim (λ f. inl (rw (e, f))) (λ f. inr (inl (rw (e, f)))))
    (λ e. ⊎_elim (λ f. inr (inr (inl (rw (e, f))))) (λ f. inr (inr (inr (rw (e, f))))))

module _ (w : Weighing) where
  -- no edge leaves the end place
  third : (cs : Clocks) (xs : List Step) → goes (example w) 2 cs xs ≡ true → xs ≡ []
  unfolding goes
  third cs [] e = refl
  third cs (x ∷ xs) e =
      let can = can-parts (example w) 2 cs x (both (can_step (example w) 2 cs x) _ e).0 in
      absurd (by x.edge can.known can.leaves)
    where
      by : (n : ℕ) → n < 2 → (edge_at (example w) n).from ≡ 2 → ⊥
      by zero h q = omega arith
      by (suc zero) h q = omega arith
      by (suc (suc n)) h q = omega arith

  abbrev after_first : ℕ → Clocks
  after_first s = after_resets (edge_at (example w) 0) (later s zero_clocks)

  abbrev Last : List Step → Type 0
  Last xs = (b : ℕ) × (1 ≤ b) × (b ≤ 2) × (xs ≡ record { edge = 1; stay = b } ∷ [])

  second-by : (s n b : ℕ) (xs : List Step) → goes (example w) 1 (after_first s) (record { edge = n; stay = b } ∷ xs) ≡ true → Last (record { edge = n; stay = b } ∷ xs)
  unfolding goes after_resets guards_hold zip_with
  second-by s zero b xs e =
      let can = can-parts (example w) 1 (after_first s) (record { edge = 0; stay = b }) (both (can_step (example w) 1 (after_first s) (record { edge = 0; stay = b })) _ e).0 in
      absurd (let q : 0 ≡ 1 = can.leaves in omega arith)
  second-by s (suc zero) b xs e =
      let r = both (can_step (example w) 1 (after_first s) (record { edge = 1; stay = b })) _ e in
      let can = can-parts (example w) 1 (after_first s) (record { edge = 1; stay = b }) r.0 in
      let g : leb (0 + b) 2 && true ≡ true = can.holds in
      let few = leb-true (0 + b) 2 (both (leb (0 + b) 2) true g).0 in
      (b, can.waits, omega arith, ap (◌∷◌ (record { edge = 1; stay = b })) (third _ xs r.1))
  second-by s (suc (suc n)) b xs e =
      let can = can-parts (example w) 1 (after_first s) (record { edge = suc (suc n); stay = b }) (both (can_step (example w) 1 (after_first s) (record { edge = suc (suc n); stay = b })) _ e).0 in
      absurd (let q : suc (suc n) < 2 = can.known in omega arith)

  second : (s : ℕ) (xs : List Step) → goes (example w) 1 (after_first s) xs ≡ true → Last xs
  unfolding goes
  second s [] e = absurd (no e)
  second s (x ∷ xs) e = second-by s x.edge x.stay xs e

  first_by : (n a : ℕ) (xs : List Step) → is_run (example w) (record { edge = n; stay = a } ∷ xs) ≡ true → Two (record { edge = n; stay = a } ∷ xs)
  unfolding is_run goes guards_hold
  first_by zero a xs e =
      let r = both (can_step (example w) 0 zero_clocks (record { edge = 0; stay = a })) _ e in
      let can = can-parts (example w) 0 zero_clocks (record { edge = 0; stay = a }) r.0 in
      let g : ltb (0 + a) 3 && true ≡ true = can.holds in
      let few = ltb-true (0 + a) 3 (both (ltb (0 + a) 3) true g).0 in
      let l = second a xs r.1 in
      subst (λ (ys : List Step). Two (record { edge = 0; stay = a } ∷ ys)) (sym l.3)
      (pairs a l.0 (small a can.waits (omega arith)) (small l.0 l.1 l.2))
  first_by (suc zero) a xs e = absurd (no e)
  first_by (suc (suc n)) a xs e =
      let x : Step = record { edge = suc (suc n); stay = a } in
      let r = both (is_start (place_at (example w) (edge_at (example w) (suc (suc n))).from).kind) (goes (example w) (edge_at (example w) (suc (suc n))).from zero_clocks (x ∷ xs)) e in
      let can = can-parts (example w) (edge_at (example w) (suc (suc n))).from zero_clocks x (both (can_step (example w) (edge_at (example w) (suc (suc n))).from zero_clocks x) _ r.1).0 in
      absurd (let q : suc (suc n) < 2 = can.known in omega arith)

  pub runs_are : (xs : List Step) → is_run (example w) xs ≡ true → Two xs
  unfolding is_run
  runs_are [] e = absurd (no e)
  runs_are (x ∷ xs) e = first_by x.edge x.stay xs e

  pub priced_run : (b : Book) (begin : ℕ) (xs : List Step) (v : ℤ) → price_of (example w) b begin xs ≡ some v → is_run (example w) xs ≡ true
  unfolding price_of
  priced_run b begin xs v = by (is_run (example w) xs) (leb (begin + length_of xs) (length b))
    where
      by : (x y : Bool) → cond (x && y) (some (run_worth (example w) b begin xs)) none ≡ some v → x ≡ true
      by true y e = refl
      by false y e = absurd (none-ne-some v e)
