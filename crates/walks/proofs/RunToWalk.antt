-- A run is walked: a stay and its edge first, then the steps one after the other.
use mathlib.Core.Path.{◌≡◌, refl, sym, ap, ◌∙◌}
use mathlib.Core.Bool.{Bool, true, false, cond}
use mathlib.Core.Option.{Option, none, some, some-injective, none-ne-some}
use mathlib.Core.List.{List, [], ◌∷◌, Memᴰ}
use Prim.Native.Nat.{ℕ, zero, suc, ◌+◌, ◌≤◌}
use native.Mathlib.Omega.{arith}
use native.Mathlib.Numerals.{add-one}
use lib.Dec.{T}
use Rattle.weighting.specs.Weighting.{Weighting, combine_from, combine_all}
use Rattle.weighting.proofs.Worths.{combine_from-append}
use Rattle.walks.specs.Automaton.{Automaton, View, State, entering, stayed, taken, Same}
use Rattle.walks.specs.Walks.{stays, takes, Reach, held, begin, move}
use Rattle.walks.specs.Runs.{Step, later, Leg, total, stay_gains, together, Run}
use Rattle.walks.specs.Tables.{opening}
use Rattle.walks.specs.Reports.{Arrives}
use Rattle.walks.specs.Claims.{Worthy}
use Rattle.walks.proofs.States.{opening-starts}
use Rattle.walks.proofs.Gains.{gains, cons_if-some, append_if-some, run-gains}
use Rattle.walks.proofs.Rest.{Rest}

entered_at : (f : Bool) → T (cond f true false) → f ≡ true
entered_at true h = refl
entered_at false h = absurd h

-- together there is a worth of a list
pub of_together : {W : Type 0} (𝓦 : Weighting W) (o : Option (List W)) (w : W) → together 𝓦 o ≡ some w → (l : List W) × (o ≡ some l) × (combine_all 𝓦 l ≡ w)
of_together 𝓦 none w e = absurd (none-ne-some w e)
of_together 𝓦 (some l) w e = (l, refl, some-injective (combine_all 𝓦 l) w e)

module _ {W C E : Type 0} (𝓦 : Weighting W) (A : Automaton C E) (𝓥 : View W) (Q : Same C) (high : ℕ) where
  abbrev R : ℕ → State C → W → Type 0
  R = Reach 𝓦 A 𝓥 high (opening 𝓦 A Q)

  -- where a stay of n ticks and the edge e lead
  abbrev landed : E → ℕ → State C → State C
  landed e n s =
      record { len = s.len + n; entered = true; place = A.target e; clocks = A.reset e (later A n s.clocks) }

  lands : (k : ℕ) {n : ℕ} {s : State C} {v : W} (e : E) (gs : List W) → R n s v → Memᴰ e A.edges → A.source e ≡ s.place
      → T (A.holds e (later A (suc k) s.clocks)) → s.len + suc k ≤ high → stay_gains 𝓥 s.entered n (A.source e) (suc k) ≡ some gs
      → R (n + suc k) (landed e (suc k) s) (combine_from 𝓦 v gs)
  unfolding stay_gains combine_from
  lands zero {n} {s} {v} e gs r m f h l q =
      let k = cons_if-some (𝓥 n s.entered (A.source e)) (some []) gs q in
      let z : [] ≡ k.1 = some-injective [] k.1 k.3 in
      let y : R (suc n) (taken A e s) (𝓦.combine v k.0) =
      move r (sym (ap (𝓥 n s.entered) f) ∙ k.2) (takes (omega arith) (record { known = m; fits = f; guarded = h })) in
      rw (k.4, ← z, add-one n, add-one s.len) y
  lands (suc j) {n} {s} {v} e gs r m f h l q =
      let k = cons_if-some (𝓥 n s.entered (A.source e)) (stay_gains 𝓥 false (suc n) (A.source e) (suc j)) gs q in
      let y : R (suc n) (stayed A s) (𝓦.combine v k.0) = move r (sym (ap (𝓥 n s.entered) f) ∙ k.2) (stays (omega arith)) in
      let t : n + suc (suc j) ≡ suc n + suc j = omega arith in
      let u : s.len + suc (suc j) ≡ suc s.len + suc j = omega arith in
      rw (k.4, t, u) (lands j e k.1 y m f h (omega arith) k.3)

  first_step : {n : ℕ} {s : State C} {v : W} (x : Step E) (gs : List W) → R n s v → Leg A s.place s.clocks x → s.len + x.stay ≤ high
      → stay_gains 𝓥 s.entered n (A.source x.edge) x.stay ≡ some gs → R (n + x.stay) (landed x.edge x.stay s) (combine_from 𝓦 v gs)
  first_step {n} {s} {v} x gs r l h q = go x.stay l.stays l.guarded h q
    where
      go : (k : ℕ) → 1 ≤ k → T (A.holds x.edge (later A k s.clocks)) → s.len + k ≤ high → stay_gains 𝓥 s.entered n (A.source x.edge) k ≡ some gs
          → R (n + k) (landed x.edge k s) (combine_from 𝓦 v gs)
      go zero o g b e = absurd (omega arith)
      go (suc k) o g b e = lands k x.edge gs r l.known l.fits g b e

  arrives : (xs : List (Step E)) (gs : List W) {n : ℕ} {s : State C} {v : W} → R n s v → Rest A 𝓥 n s xs gs → s.len + total xs ≤ high
      → Arrives 𝓦 A 𝓥 high (opening 𝓦 A Q) (n + total xs) (s.len + total xs) (combine_from 𝓦 v gs)
  unfolding gains combine_from
  arrives [] gs {n} {s} {v} r z h =
      let e : [] ≡ gs = some-injective [] gs z.gained in
      let t : n + 0 ≡ n = omega arith in
      record {
        there = s;
        len_is = omega arith;
        just_entered = entered_at s.entered z.may_end;
        at_end = z.goes;
        reached = rw (← e, t) r;
      }
  arrives (x ∷ xs) gs {n} {s} {v} r z h =
      let k = append_if-some (stay_gains 𝓥 s.entered n (A.source x.edge) x.stay) (gains A 𝓥 true (n + x.stay) xs) gs z.gained in
      let y = first_step x k.0 r z.goes.0 (omega arith) k.2 in
      let a : Arrives 𝓦 A 𝓥 high (opening 𝓦 A Q) (n + x.stay + total xs) (s.len + x.stay + total xs) (combine_from 𝓦 (combine_from 𝓦 v k.0) k.1) =
      arrives xs k.1 y (record { goes = z.goes.1; may_end = tt; gained = k.3 }) (omega arith) in
      let t : n + (x.stay + total xs) ≡ n + x.stay + total xs = omega arith in
      let u : s.len + (x.stay + total xs) ≡ s.len + x.stay + total xs = omega arith in
      rw (k.4, t, u, combine_from-append) a

  pub begins : (b p : ℕ) → T (A.is_start p) → R b (entering A p) 𝓦.unit
  begins zero p h = held (opening-starts 𝓦 A Q p h)
  begins (suc b) p h = begin h

  pub run-walk : Worthy 𝓦 𝓥 → {b e len : ℕ} {w : W} → len ≤ high → Run 𝓦 A 𝓥 b e len w → Arrives 𝓦 A 𝓥 high (opening 𝓦 A Q) e len w
  run-walk worthy {b} {e} {len} {w} h u =
      let k = of_together 𝓦 (gains A 𝓥 true b u.steps) w (sym (run-gains 𝓦 𝓥 worthy A u.steps b) ∙ u.is_worth) in
      let a : Arrives 𝓦 A 𝓥 high (opening 𝓦 A Q) (b + total u.steps) (0 + total u.steps) (combine_all 𝓦 k.0) =
      arrives u.steps k.0 (begins b u.first u.first_starts) (record { goes = u.goes; may_end = tt; gained = k.1 }) (omega arith) in
      let t : b + total u.steps ≡ e = omega arith in
      let l : 0 + total u.steps ≡ len = omega arith in
      rw (t, l, k.2) at a
