-- A walk into an end place is a run: by induction on the walk, with the rest of the run carried along.
use mathlib.Core.Path.{◌≡◌, refl, sym, ap, subst, ◌∙◌}
use mathlib.Core.Bool.{Bool, true, false, cond}
use mathlib.Core.Option.{some}
use mathlib.Core.List.{List, [], ◌∷◌}
use Prim.Native.Nat.{ℕ, zero, suc, ◌+◌, ◌≤◌}
use native.Mathlib.Omega.{arith}
use lib.Dec.{T}
use Rattle.weighting.specs.Weighting.{Weighting, combine_from, combine_all}
use Rattle.walks.specs.Automaton.{Automaton, View, State, entering, stayed, taken, Same}
use Rattle.walks.specs.Walks.{Takes, Move, stays, takes, Reach, held, begin, move}
use Rattle.walks.specs.Runs.{Step, Leg, Goes, total, non_empty, together, Run}
use Rattle.walks.specs.Tables.{opening}
use Rattle.walks.specs.Reports.{Arrives}
use Rattle.walks.specs.Claims.{Worthy}
use Rattle.walks.proofs.States.{opening-holds}
use Rattle.walks.proofs.Gains.{gains, run-gains, gains-longer, gains-one}
use Rattle.walks.proofs.Rest.{Rest}

may : (f : Bool) → T (cond f true true)
may true = tt
may false = tt

some-steps : {E : Type 0} (xs : List (Step E)) → 1 ≤ total xs → T (non_empty xs)
some-steps [] h = absurd (omega arith)
some-steps (x ∷ xs) h = tt

module _ {W C E : Type 0} (𝓦 : Weighting W) (A : Automaton C E) (𝓥 : View W) where
  -- the whole run, of what is behind (s is reached at n with w) and of what is to come (xs, gaining gs)
  record Whole (n : ℕ) (s : State C) (w : W) (xs : List (Step E)) (gs : List W) : Type 0 where
    b : ℕ
    steps : List (Step E)
    first : ℕ
    first_starts : T (A.is_start first)
    goes : Goes A first A.zeros steps
    lasts : total steps ≡ s.len + total xs
    since : b + s.len ≡ n
    all : List W
    gained : gains A 𝓥 true b steps ≡ some all
    is_worth : combine_all 𝓦 all ≡ combine_from 𝓦 w gs

  -- whatever is still to come
  abbrev Wholes : ℕ → State C → W → Type 0
  Wholes n s w = (xs : List (Step E)) (gs : List W) → Rest A 𝓥 n s xs gs → Whole n s w xs gs

  whole-begin : (n p : ℕ) → T (A.is_start p) → Wholes n (entering A p) 𝓦.unit
  whole-begin n p h xs gs r =
      record {
        b = n;
        steps = xs;
        first = p;
        first_starts = h;
        goes = r.goes;
        lasts = omega arith;
        since = omega arith;
        all = gs;
        gained = r.gained;
        is_worth = refl;
      }

  -- a tick on, with a tick less to come
  one-tick : {n : ℕ} {s x : State C} {w g : W} (ys zs : List (Step E)) (gs : List W) → Whole n s w ys (g ∷ gs) → x.len ≡ suc s.len → total ys ≡ suc (total zs) → Whole (suc n) x (𝓦.combine w g) zs gs
  unfolding combine_from
  one-tick ys zs gs k e f =
      record {
        b = k.b;
        steps = k.steps;
        first = k.first;
        first_starts = k.first_starts;
        goes = k.goes;
        lasts = omega arith;
        since = omega arith;
        all = k.all;
        gained = k.gained;
        is_worth = k.is_worth;
      }

  module _ {n : ℕ} {s : State C} {w g : W} (ih : Wholes n s w) (gain-is : 𝓥 n s.entered s.place ≡ some g) where
    whole-stay : Wholes (suc n) (stayed A s) (𝓦.combine w g)
    whole-stay [] gs r = absurd r.may_end
    whole-stay (x ∷ xs) gs r =
        let l : Leg A s.place (A.tick s.clocks) x = r.goes.0 in
        let x' : Step E = record { edge = x.edge; stay = suc x.stay } in
        let k : Whole n s w (x' ∷ xs) (g ∷ gs) = ih (x' ∷ xs) (g ∷ gs) (record {
          goes = (record { known = l.known; fits = l.fits; stays = omega arith; guarded = l.guarded }, r.goes.1);
          may_end = may s.entered;
          gained = gains-longer A 𝓥 s.entered n x.edge x.stay xs g gs (rw l.fits gain-is) r.gained;
        }) in
        one-tick (x' ∷ xs) (x ∷ xs) gs k refl (omega arith)

    whole_take : {e : E} → Takes A s e → Wholes (suc n) (taken A e s) (𝓦.combine w g)
    whole_take {e} h xs gs r =
        let x : Step E = record { edge = e; stay = 1 } in
        let k : Whole n s w (x ∷ xs) (g ∷ gs) = ih (x ∷ xs) (g ∷ gs) (record {
          goes = (record { known = h.known; fits = h.fits; stays = omega arith; guarded = h.guarded }, r.goes);
          may_end = may s.entered;
          gained = gains-one A 𝓥 s.entered n e xs g gs (rw h.fits gain-is) r.gained;
        }) in
        one-tick (x ∷ xs) xs gs k refl (omega arith)

    whole_move : {high : ℕ} {x : State C} → Move A high s x → Wholes (suc n) x (𝓦.combine w g)
    whole_move (stays l) = whole-stay
    whole_move (takes l h) = whole_take h

  module _ (Q : Same C) (high : ℕ) where
    whole : {n : ℕ} {s : State C} {w : W} → Reach 𝓦 A 𝓥 high (opening 𝓦 A Q) n s w → Wholes n s w
    whole (held {s = s} {w = w} e) =
        let k = opening-holds 𝓦 A Q s w e in
        rw k.2 (subst (λ (y : State C). Wholes zero y 𝓦.unit) (sym k.1) (whole-begin zero s.place k.0))
    whole (begin {n = n} {p = p} h) = whole-begin (suc n) p h
    whole (move r gain-is m) = whole_move (whole r) gain-is m

    pub walk-run : Worthy 𝓦 𝓥 → {n len : ℕ} {w : W} → 1 ≤ len → Arrives 𝓦 A 𝓥 high (opening 𝓦 A Q) n len w → (b : ℕ) × Run 𝓦 A 𝓥 b n len w
    unfolding gains combine_from
    walk-run worthy {n} {len} {w} o a =
        go (whole a.reached [] [] (record { goes = a.at_end; may_end = rw a.just_entered tt; gained = refl }))
      where
        go : Whole n a.there w [] [] → (b : ℕ) × Run 𝓦 A 𝓥 b n len w
        go k = (
          k.b,
          record {
            steps = k.steps;
            first = k.first;
            first_starts = k.first_starts;
            goes = k.goes;
            has_steps = some-steps k.steps (omega (arith, a.len_is));
            lasts = omega (arith, a.len_is);
            ends = omega (arith, a.len_is);
            is_worth = run-gains 𝓦 𝓥 worthy A k.steps k.b ∙ ap (together 𝓦) k.gained ∙ ap some k.is_worth;
          },
        )
