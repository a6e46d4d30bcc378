-- A run, step by step: what a step leaves, and the steps of two lists.
use Prim.Native.Nat.{ℕ, zero, suc, ◌+◌, ◌-◌, ◌≤◌, ◌<◌}
use native.Mathlib.Omega.{arith}
use mathlib.Core.Path.{◌≡◌, refl, sym, ap, ◌∙◌}
use mathlib.Core.List.{List, [], ◌∷◌, ◌++◌, zip_with}
use mathlib.Core.Option.{Option, none}
use Rattle.std.specs.Prelude.{Some, None}
use mathlib.Core.Bool.{Bool, true, false, cond, ◌&&◌}
use mathlib.Core.Logic.{◌⊎◌, ⊎_elim}
use borrow.Author.Tests.{le-leb, lt-leb, lt-ltb, le-ltb}
use lib.ListN.{length, take, drop, get_or, length-drop}
use Rattle.std.proofs.lemmas.List.{length-take}
use Rattle.pattern.specs.declared.Edge.{Edge}
use lib.Seq.{length-take-le, get_or-take}
use lib.IntN.{ℤ}
use Rattle.pattern.specs.declared.Place.{Place}
use Rattle.pattern.specs.declared.Pattern.{Pattern}
use Rattle.pattern.specs.Sound.{no_edge, edge_sound, sound_of}
use Rattle.pattern.specs.InUse.{place_at, edge_at}
use Rattle.pattern.specs.Clocks.{Clocks, later}
use Rattle.pattern.proofs.SoundLaws.{edge-parts}
use Rattle.pattern.proofs.SoundLaws as pattern-laws
use Rattle.price_runs.specs.declared.Stand.{Stand}
use Rattle.price_stays.specs.declared.Walk.{Walk}
use Rattle.record.specs.Record.{record_sound}
use Rattle.record.specs.Run.{Step, can_step, clocks_after, steps_of}
use Rattle.price_stays.specs.Walk.{ahead, Walks, Stayed}
use Rattle.price_runs.specs.Stand.{Room, can_leave, score_from, outcome, Held, Stepped}
use Rattle.record.proofs.ListLaws.{all-at}
use Rattle.record.proofs.StepLaws.{clocks-after}
use Rattle.record.proofs.PlaceLaws.{place-size, place-at-sound}

-- ---- a step

-- an edge that a sound pattern has leaves and enters places that it has
pub edge-at-sound : (p : Pattern) (k : ℕ) → sound_of p ≡ true → k < p.edgecount
    → (k < 32) × (((edge_at p k).from < p.placecount) × ((edge_at p k).to < p.placecount))
edge-at-sound p k h less =
    let s = (pattern-laws.parts p h).edges in
    let f = s.few in
    let g = s.long in
    let long : length (take p.edgecount p.edges) ≡ p.edgecount = length-take-le p.edgecount p.edges (omega arith) in
    let e : edge_sound p.clocks p.placecount (edge_at p k) ≡ true =
    ap (edge_sound p.clocks p.placecount) (sym (get_or-take p.edgecount p.edges k no_edge less))
    ∙ all-at (edge_sound p.clocks p.placecount) (take p.edgecount p.edges) k no_edge s.front (omega arith) in
    let ends = edge-parts p.clocks p.placecount (edge_at p k) e in
    (omega arith, (ends.from_place, ends.to_place))

-- an edge found among those in use, and none found
pub edge_found : (p : Pattern) (k : ℕ) (es : List Edge) (e : Edge) → es ≡ take p.edgecount p.edges → (k < length es) × ((d : Edge) → e ≡ get_or es k d)
    → (k < p.edgecount) × (e ≡ edge_at p k)
edge_found p k es e in_use found =
    let less = found.0 in
    let n = ap length in_use ∙ length-take p.edgecount p.edges in
    let known : k < p.edgecount = omega arith in
    (known, found.1 no_edge ∙ rw in_use (get_or-take p.edgecount p.edges k no_edge known))

pub edge_lacked : (p : Pattern) (k : ℕ) (es : List Edge) → sound_of p ≡ true → es ≡ take p.edgecount p.edges → length es ≤ k → p.edgecount ≤ k
edge_lacked p k es h in_use more =
    let n = ap length in_use ∙ length-take p.edgecount p.edges in
    let few = (pattern-laws.parts p h).edges.few in
    let long = (pattern-laws.parts p h).edges.long in
    omega arith

-- a step by an edge that the pattern has
pub can_leave_lem : (p : Pattern) (k : ℕ) (cs : Clocks) (x : Step) → x.edge < p.edgecount
    → can_step p k cs x ≡ can_leave (edge_at p x.edge) k x.stay (later x.stay cs)
unfolding can_step
can_leave_lem p k cs x h = rw (lt-ltb x.edge p.edgecount h)

-- and by one that it lacks
pub no_edge_lem : (p : Pattern) (k : ℕ) (cs : Clocks) (x : Step) → p.edgecount ≤ x.edge → can_step p k cs x ≡ false
unfolding can_step
no_edge_lem p k cs x h = rw (le-ltb x.edge p.edgecount h)

module _ (p : Pattern) (ds : List ℕ) (vs : List ℤ) (s : Stand) (h : Held p ds vs s) where
  pub room : (n : ℕ) → n ≤ s.left → Room s.clocks n
  room n l k = omega (arith, h.clocks k)

  -- a stay in a place of the pattern
  pub walks : (sound : sound_of p ≡ true) → record_sound p.channels ds vs ≡ true → (l : Place) (k n : ℕ) → l ≡ place_at p k → k < p.placecount → n ≤ s.left
      → Walks p.weighing l p.channels ds vs s.piece (record { piece = s.piece; used = s.used; left = n; worth = s.worth })
  walks sound kept l k n is has fits =
      record {
        sound = kept;
        mild = λ x e. rw is (place-size p.channels (place_at p k) x (place-at-sound p k sound has) e p.weighing);
        stands = h.stands;
        onward = omega arith;
        enough = let e = h.left in omega arith;
        size = let e = h.size in omega arith;
      }

  -- a step that is made
  pub made : (x : Step) (there : Walk) → can_step p s.place s.clocks x ≡ true → x.stay ≤ s.left
      → Stayed p.weighing (place_at p (edge_at p x.edge).from) p.channels ds vs (record { piece = s.piece; used = s.used; left = x.stay; worth = s.worth }) there
      → Stepped p ds vs s x (Some (record { place = (edge_at p x.edge).to; clocks = clocks_after p s.clocks x; piece = there.piece; used = there.used; left = s.left - x.stay; worth = there.worth }))
  unfolding outcome score_from
  made x there can fits stayed =
      let B = ahead p.channels ds vs s.piece s.used in
      let long = h.left in
      record {
        held = record {
          stands = stayed.stands;
          left = rw (stayed.rest, length-drop x.stay B) (ap (λ (n : ℕ). n - x.stay) h.left);
          clocks = λ k. omega (arith, clocks-after p s.clocks x k, h.clocks k);
          size = let a = h.size in let b = stayed.size in omega arith;
        };
        same = λ xs. rw (can, le-leb x.stay (length B) (omega arith), stayed.rest, stayed.worth);
      }

  -- one that is not
  pub not-fitting : (x : Step) → s.left < x.stay → Stepped p ds vs s x None
  unfolding outcome score_from
  not-fitting x l =
      let B = ahead p.channels ds vs s.piece s.used in
      let long = h.left in
      record { held = tt; same = λ xs. rw (lt-leb x.stay (length B) (omega arith)) (none_of (can_step p s.place s.clocks x) _) }
    where
      none_of : (b : Bool) (o : Option ℤ) → none ≡ cond (b && false) o none
      none_of true o = refl
      none_of false o = refl

  pub not_able : (x : Step) → can_step p s.place s.clocks x ≡ false → Stepped p ds vs s x None
  unfolding outcome score_from
  not_able x e = record { held = tt; same = λ xs. rw e }

-- ---- the steps of two lists

pub steps-first : (es ss es' ss' : List ℕ) (e n : ℕ) → es ≡ e ∷ es' → ss ≡ n ∷ ss'
    → steps_of es ss ≡ record { edge = e; stay = n } ∷ steps_of es' ss'
unfolding steps_of zip_with
steps-first es ss es' ss' e n f g = rw (f, g)

-- step i, and the steps after it
pub steps-at : (es ss : List ℕ) (i : ℕ) → length es ≡ length ss → i < length es
    → drop i (steps_of es ss) ≡ record { edge = get_or es i 0; stay = get_or ss i 0 } ∷ drop (i + 1) (steps_of es ss)
unfolding steps_of zip_with
steps-at [] ss i e h = absurd (omega arith)
steps-at (a ∷ es) [] i e h = absurd (omega arith)
steps-at (a ∷ es) (b ∷ ss) zero e h = refl
steps-at (a ∷ es) (b ∷ ss) (suc i) e h =
    let k : suc i + 1 ≡ suc (i + 1) = omega arith in rw k (steps-at es ss i (omega arith) (omega arith))

pub steps-none : (es ss : List ℕ) → (es ≡ []) ⊎ (ss ≡ []) → steps_of es ss ≡ []
unfolding steps_of zip_with
steps-none es ss = ⊎_elim (λ e. rw e) (λ e. rw e (by es))
  where
    by : (es : List ℕ) → steps_of es [] ≡ []
    by [] = refl
    by (e ∷ es) = refl

-- no step is made any more
pub no_outcome : (p : Pattern) (ds : List ℕ) (vs : List ℤ) (xs ys : List Step) → outcome p ds vs None xs ≡ outcome p ds vs None ys
unfolding outcome
no_outcome p ds vs xs ys = refl

-- the lists cut in two
pub steps_cut : (n : ℕ) (es ss : List ℕ) → length es ≡ length ss
    → steps_of (take n es) (take n ss) ++ steps_of (drop n es) (drop n ss) ≡ steps_of es ss
unfolding steps_of zip_with
steps_cut zero es ss e = refl
steps_cut (suc n) [] [] e = refl
steps_cut (suc n) [] (b ∷ ss) e = absurd (omega arith)
steps_cut (suc n) (a ∷ es) [] e = absurd (omega arith)
steps_cut (suc n) (a ∷ es) (b ∷ ss) e = ap (◌∷◌ (record { edge = a; stay = b })) (steps_cut n es ss (omega arith))
