-- Where a state can go, as a list and as moves.
use mathlib.Core.Path.{◌≡◌, refl, ap}
use mathlib.Core.Logic.{⊎_elim}
use mathlib.Core.List.Memᴰ
use mathlib.Core.List.{List, [], ◌∷◌, Memᴰ}
use Prim.Native.Nat.{ℕ, suc, ◌<◌}
use lib.Dec.{T, eqb, eqb→eq, eqb_refl, ltb, ltb→lt, lt→ltb}
use Rattle.integers.proofs.Tests.{and_l, and_r, and_in}
use Rattle.walks.specs.Automaton.{Automaton, State, stayed, taken}
use Rattle.walks.specs.Walks.{Takes, Move, stays, takes}
use Rattle.walks.specs.Tables.{can_take, along, moves_from}
use Rattle.walks.proofs.Tests.{of_cond-cons, cond-head, cond-tail, of_cond, in-cond}

module _ {C E : Type 0} (A : Automaton C E) (s : State C) where
  of_along : {x : State C} (es : List E) → Memᴰ x (along A s es) → (e : E) × Memᴰ e es × T (can_take A s e) × (x ≡ taken A e s)
  unfolding along
  of_along [] m = absurd (Memᴰ.not-nil m)
  of_along (e ∷ es) m =
      ⊎_elim
      (λ h. (e, Memᴰ.head refl, h.0, h.1))
      (λ k. let r = of_along es k in (r.0, Memᴰ.tail r.1, r.2, r.3))
      (of_cond-cons (can_take A s e) (taken A e s) (along A s es) m)

  to-along : {e : E} (es : List E) → Memᴰ e es → T (can_take A s e) → Memᴰ (taken A e s) (along A s es)
  unfolding along
  to-along [] m h = absurd (Memᴰ.not-nil m)
  to-along (f ∷ es) m h =
      ⊎_elim
      (λ p. cond-head (can_take A s f) (taken A f s) (along A s es) (rw p at h) (ap (λ (y : E). taken A y s) p))
      (λ k. cond-tail (can_take A s f) (taken A f s) (along A s es) (to-along es k h))
      (Memᴰ.cases_cons m)

  can-take : (e : E) → Memᴰ e A.edges → T (can_take A s e) → Takes A s e
  unfolding can_take
  can-take e m h =
      record {
        known = m;
        fits = eqb→eq (A.source e) s.place (search and_l);
        guarded = search and_r;
      }

  takes-can : (e : E) → Takes A s e → T (can_take A s e)
  unfolding can_take
  takes-can e h =
      and_in (eqb (A.source e) s.place) (A.holds e (A.tick s.clocks)) (rw h.fits (eqb_refl s.place)) h.guarded

  pub of_moves : (high : ℕ) (x : State C) → Memᴰ x (moves_from A high s) → Move A high s x
  unfolding moves_from
  of_moves high x m =
      let k = of_cond (ltb s.len high) (stayed A s ∷ along A s A.edges) m in
      let l : s.len < high = ltb→lt s.len high k.0 in
      ⊎_elim
      (λ e. rw e (stays l))
      (λ i. let r = of_along A.edges i in rw r.3 (takes l (can-take r.0 r.1 r.2)))
      (Memᴰ.cases_cons k.1)

  pub to-moves : (high : ℕ) {x : State C} → Move A high s x → Memᴰ x (moves_from A high s)
  unfolding moves_from
  to-moves high (stays l) =
      in-cond (ltb s.len high) (stayed A s ∷ along A s A.edges) (lt→ltb s.len high l) (Memᴰ.head refl)
  to-moves high (takes {e = e} l h) =
      in-cond (ltb s.len high) (stayed A s ∷ along A s A.edges) (lt→ltb s.len high l)
      (Memᴰ.tail (to-along A.edges h.known (takes-can e h)))

  -- a move is one tick longer
  pub move_len : {high : ℕ} {x : State C} → Move A high s x → x.len ≡ suc s.len
  move_len (stays l) = refl
  move_len (takes l h) = refl
