-- One tick moves length n to n + 1: a cell of the next table depends on the cells that are one tick shorter, and a report
-- on all cells, and neither on anything else.
use mathlib.Core.Path.{◌≡◌, refl, sym, ap, subst, ◌∙◌}
use mathlib.Core.Bool.{Bool, true, false, cond}
use mathlib.Core.Option.{Option, none, some}
use mathlib.Core.List.Memᴰ
use mathlib.Core.List.{List, [], ◌∷◌, ◌++◌, Memᴰ}
use Prim.Native.Nat.{ℕ, suc}
use lib.Dec.{T, eqb, eqb→eq, eqb_refl}
use Rattle.integers.proofs.Tests.{true_T}
use Rattle.weighting.specs.Order.{best_of}
use Rattle.weighting.specs.Weighting.{Weighting}
use Rattle.weighting.specs.Shortest.{shortest}
use Rattle.walks.specs.Automaton.{Automaton, TickView, State, Same, same_state}
use Rattle.walks.specs.Tables.{Table, moves_from, grown, offer, offers, offered_to, next}
use Rattle.walks.specs.Reports.{ending, entry, entries, report}
use Rattle.walks.specs.Claims.{OnlyShorter, ReportsOnlyCells}
use Rattle.walks.proofs.Moves.{of_moves, move_len}
use Rattle.walks.proofs.Offers.{of_offered_to}

-- a list that has nothing
no_members : {A : Type 0} (l : List A) → ((a : A) → Memᴰ a l → ⊥) → l ≡ []
no_members [] h = refl
no_members (a ∷ l) h = absurd (h a (Memᴰ.head refl))

module _ {W C : Type 0} (Q : Same C) (x : State C) where
  offered_to-append : (cs ds : List (State C × W)) → offered_to Q x (cs ++ ds) ≡ offered_to Q x cs ++ offered_to Q x ds
  unfolding offered_to
  offered_to-append [] ds = refl
  offered_to-append (c ∷ cs) ds = rw (offered_to-append cs ds) (go (same_state Q c.0 x))
    where
      go : (t : Bool) → cond t (c.1 ∷ (offered_to Q x cs ++ offered_to Q x ds)) (offered_to Q x cs ++ offered_to Q x ds) ≡ cond t (c.1 ∷ offered_to Q x cs) (offered_to Q x cs) ++ offered_to Q x ds
      go true = refl
      go false = refl

module _ {W C E : Type 0} (𝓦 : Weighting W) (A : Automaton C E) (Q : Same C) (high : ℕ) (g : TickView W) (x : State C) where
  -- a cell of another length offers nothing to x
  offers-none : (s : State C) (o : Option W) → (suc s.len ≡ x.len → ⊥) → offered_to Q x (offer o (moves_from A high s)) ≡ []
  offers-none s o h =
      no_members (offered_to Q x (offer o (moves_from A high s)))
      (λ v m. go o v (of_offered_to Q x (offer o (moves_from A high s)) v m))
    where
      go : (o : Option W) (v : W) → Memᴰ (x, v) (offer o (moves_from A high s)) → ⊥
      go none v m = Memᴰ.not-nil m
      go (some w) v m =
          let k = Memᴰ.of_map (λ (y : State C). (y, w)) (moves_from A high s) m in
          h (sym (move_len A s (of_moves A s high k.0 k.1)) ∙ ap (λ (r : State C × W). r.0.len) k.2)

  -- two tables that agree on the cells one tick shorter offer the same to x
  offers-row : (U U' : Table W C) (ss : List (State C)) → ((s : State C) → Memᴰ s ss → suc s.len ≡ x.len → U s ≡ U' s)
      → offered_to Q x (offers 𝓦 A high g U ss) ≡ offered_to Q x (offers 𝓦 A high g U' ss)
  unfolding offers
  offers-row U U' [] h = refl
  offers-row U U' (s ∷ ss) h =
      offered_to-append Q x (from U) (offers 𝓦 A high g U ss)
      ∙ (λ i. go (eqb (suc s.len) x.len) refl i ++ offers-row U U' ss (λ y m. h y (Memᴰ.tail m)) i)
      ∙ sym (offered_to-append Q x (from U') (offers 𝓦 A high g U' ss))
    where
      from : Table W C → List (State C × W)
      from U = offer (grown 𝓦 (U s) (g s.entered s.place)) (moves_from A high s)

      none_from : (U : Table W C) → eqb (suc s.len) x.len ≡ false → offered_to Q x (from U) ≡ []
      none_from U e = offers-none s (grown 𝓦 (U s) (g s.entered s.place)) (λ k. subst T (ap (eqb (suc s.len)) k ∙ e) (eqb_refl (suc s.len)))

      go : (t : Bool) → eqb (suc s.len) x.len ≡ t → offered_to Q x (from U) ≡ offered_to Q x (from U')
      go true e = rw (h s (Memᴰ.head refl) (eqb→eq (suc s.len) x.len (true_T (eqb (suc s.len) x.len) e)))
      go false e = none_from U e ∙ sym (none_from U' e)

module _ {W C E : Type 0} (𝓦 : Weighting W) (A : Automaton C E) (Q : Same C) (high : ℕ) (all : List (State C)) where
  pub only-shorter : OnlyShorter 𝓦 A Q high all
  unfolding next
  only-shorter g x U U' h = rw (offers-row 𝓦 A Q high g x U U' all h)

module _ {W C E : Type 0} (A : Automaton C E) (low : ℕ) (U U' : Table W C) where
  entries-same : (ss : List (State C)) → ((s : State C) → Memᴰ s ss → U s ≡ U' s) → entries A low U ss ≡ entries A low U' ss
  unfolding entries
  entries-same [] h = refl
  entries-same (s ∷ ss) h = λ i.
      entry s (h s (Memᴰ.head refl) i) (ending A low s) ++ entries-same ss (λ y m. h y (Memᴰ.tail m)) i

pub reports-only-cells : {W C E : Type 0} (𝓦 : Weighting W) (A : Automaton C E) (Q : Same C) (high : ℕ) (all : List (State C)) → ReportsOnlyCells 𝓦 A Q high all
unfolding report
reports-only-cells 𝓦 A Q high all low U U' h = ap (best_of (shortest 𝓦.order)) (entries-same A low U U' all h)
