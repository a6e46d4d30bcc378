-- What one tick offers to a state, as a list and in words.
use mathlib.Core.Path.{◌≡◌, refl, sym, ap, subst}
use mathlib.Core.Option.{Option, none, some}
use mathlib.Core.Logic.{⊎_elim}
use mathlib.Core.List.Memᴰ
use mathlib.Core.List.{List, [], ◌∷◌, Memᴰ}
use Prim.Native.Nat.{ℕ}
use lib.Dec.{T}
use Rattle.weighting.specs.Weighting.{Weighting}
use Rattle.walks.specs.Automaton.{Automaton, TickView, State, Same, same_state}
use Rattle.walks.specs.Walks.{Move}
use Rattle.walks.specs.Tables.{Table, moves_from, grown, offer, offers, offered_to}
use Rattle.walks.proofs.Tests.{of_cond-cons, cond-head, cond-tail}
use Rattle.walks.proofs.States.{same_eq, same_self}
use Rattle.walks.proofs.Moves.{of_moves, to-moves}

-- v is offered to x by a cell of ss that holds a worth, whose place can be stayed in, and whose state moves to x
pub record Offered {W C E : Type 0} (𝓦 : Weighting W) (A : Automaton C E) (high : ℕ) (g : TickView W) (U : Table W C) (ss : List (State C)) (x : State C) (v : W) : Type 0 where
  pub by : State C
  pub is_a_cell : Memᴰ by ss
  pub had : W
  pub holds : U by ≡ some had
  pub gain : W
  pub gains : g by.entered by.place ≡ some gain
  pub moves : Move A high by x
  pub is : v ≡ 𝓦.combine had gain

-- ---- those offered to x

module _ {W C : Type 0} (Q : Same C) (x : State C) where
  pub of_offered_to : (cs : List (State C × W)) (v : W) → Memᴰ v (offered_to Q x cs) → Memᴰ (x, v) cs
  unfolding offered_to
  of_offered_to [] v m = absurd (Memᴰ.not-nil m)
  of_offered_to (c ∷ cs) v m =
      ⊎_elim
      (λ h. Memᴰ.head (λ i. (sym (same_eq Q c.0 x h.0) i, h.1 i)))
      (λ k. Memᴰ.tail (of_offered_to cs v k))
      (of_cond-cons (same_state Q c.0 x) c.1 (offered_to Q x cs) m)

  pub to-offered_to : (cs : List (State C × W)) (v : W) → Memᴰ (x, v) cs → Memᴰ v (offered_to Q x cs)
  unfolding offered_to
  to-offered_to [] v m = absurd (Memᴰ.not-nil m)
  to-offered_to (c ∷ cs) v m =
      ⊎_elim
      (λ (p : ◌≡◌ {A = State C × W} (x, v) c).
      cond-head (same_state Q c.0 x) c.1 (offered_to Q x cs)
      (subst (λ (y : State C × W). T (same_state Q y.0 x)) p (same_self Q x)) (ap (λ (y : State C × W). y.1) p))
      (λ k. cond-tail (same_state Q c.0 x) c.1 (offered_to Q x cs) (to-offered_to cs v k))
      (Memᴰ.cases_cons m)

-- ---- all that is offered

module _ {W C E : Type 0} (𝓦 : Weighting W) (A : Automaton C E) (high : ℕ) (g : TickView W) (U : Table W C) where
  of_offer : {x : State C} {v : W} (s : State C) (ss : List (State C)) (o p : Option W) → U s ≡ o → g s.entered s.place ≡ p → Memᴰ (x, v) (offer (grown 𝓦 o p) (moves_from A high s)) → Offered 𝓦 A high g U (s ∷ ss) x v
  of_offer s ss none p e f m = absurd (Memᴰ.not-nil m)
  of_offer s ss (some w) none e f m = absurd (Memᴰ.not-nil m)
  of_offer {x} {v} s ss (some w) (some a) e f m =
      let k = Memᴰ.of_map (λ (y : State C). (y, 𝓦.combine w a)) (moves_from A high s) m in
      record {
        by = s;
        is_a_cell = Memᴰ.head refl;
        had = w;
        holds = e;
        gain = a;
        gains = f;
        moves = subst (Move A high s) (ap (λ (r : State C × W). r.0) k.2) (of_moves A s high k.0 k.1);
        is = sym (ap (λ (r : State C × W). r.1) k.2);
      }

  one_more : {x : State C} {v : W} {s : State C} {ss : List (State C)} → Offered 𝓦 A high g U ss x v → Offered 𝓦 A high g U (s ∷ ss) x v
  one_more o =
      record {
        by = o.by;
        is_a_cell = Memᴰ.tail o.is_a_cell;
        had = o.had;
        holds = o.holds;
        gain = o.gain;
        gains = o.gains;
        moves = o.moves;
        is = o.is;
      }

  pub of_offers : {x : State C} {v : W} (ss : List (State C)) → Memᴰ (x, v) (offers 𝓦 A high g U ss) → Offered 𝓦 A high g U ss x v
  unfolding offers
  of_offers [] m = absurd (Memᴰ.not-nil m)
  of_offers (s ∷ ss) m =
      ⊎_elim
      (λ k. of_offer s ss (U s) (g s.entered s.place) refl refl k)
      (λ k. one_more (of_offers ss k))
      (Memᴰ.append_cases (offer (grown 𝓦 (U s) (g s.entered s.place)) (moves_from A high s)) m)

  to-offer : {s x : State C} {w a : W} → U s ≡ some w → g s.entered s.place ≡ some a → Move A high s x → Memᴰ (x, 𝓦.combine w a) (offer (grown 𝓦 (U s) (g s.entered s.place)) (moves_from A high s))
  to-offer {s} {x} {w} {a} e f m = rw (e, f) (Memᴰ.map (λ (y : State C). (y, 𝓦.combine w a)) (to-moves A s high m))

  pub to-offers : {s x : State C} {w a : W} (ss : List (State C)) → Memᴰ s ss → U s ≡ some w → g s.entered s.place ≡ some a → Move A high s x → Memᴰ (x, 𝓦.combine w a) (offers 𝓦 A high g U ss)
  unfolding offers
  to-offers [] i e f m = absurd (Memᴰ.not-nil i)
  to-offers {s} {x} {w} {a} (y ∷ ss) i e f m =
      ⊎_elim
      (λ (p : s ≡ y).
      Memᴰ.append_left (offers 𝓦 A high g U ss)
      (subst (λ (z : State C). Memᴰ (x, 𝓦.combine w a) (offer (grown 𝓦 (U z) (g z.entered z.place)) (moves_from A high z))) p (to-offer e f m)))
      (λ k.
      Memᴰ.append_right (offer (grown 𝓦 (U y) (g y.entered y.place)) (moves_from A high y)) (to-offers ss k e f m))
      (Memᴰ.cases_cons i)
