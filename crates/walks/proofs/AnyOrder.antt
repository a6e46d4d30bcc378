-- In whatever order a tick's offers are made, the cells get what the table one tick later has.
use mathlib.Core.Path.{◌≡◌, refl, ◌∙◌}
use mathlib.Core.Bool.{Bool, true, false, cond}
use mathlib.Core.Option.{none}
use mathlib.Core.List.{List, [], ◌∷◌, Memᴰ}
use Prim.Native.Nat.{ℕ}
use native.Mathlib.Omega.{arith}
use lib.Dec.{T, eqb, eqb→eq}
use Rattle.integers.proofs.Tests.{is_false, true_T}
use Rattle.weighting.specs.Order.{Order, choose, best_from, best_of}
use Rattle.weighting.specs.Weighting.{Weighting}
use Rattle.weighting.proofs.Best.{IsBest_iff, IsBest-same, best_of_best}
use Rattle.walks.specs.Automaton.{Automaton, State, Same, same_state}
use Rattle.walks.specs.Tables.{Table, offers, offered_to, offered, next}
use Rattle.walks.specs.Claims.{AnyOrder}
use Rattle.walks.proofs.Offers.{of_offered_to, to-offered_to}

-- each cell chooses among what is offered to it
pub offered-is : {W C : Type 0} (O : Order W) (Q : Same C) (U : Table W C) (cs : List (State C × W)) (x : State C) → offered O Q U cs x ≡ best_from O (U x) (offered_to Q x cs)
unfolding offered offered_to best_from
offered-is O Q U [] x = refl
offered-is {W} {C} O Q U (c ∷ cs) x =
    offered-is O Q (λ (y : State C). cond (same_state Q c.0 y) (choose O (U y) c.1) (U y)) cs x
    ∙ go (same_state Q c.0 x)
  where
    go : (t : Bool) → best_from O (cond t (choose O (U x) c.1) (U x)) (offered_to Q x cs) ≡ best_from O (U x) (cond t (c.1 ∷ offered_to Q x cs) (offered_to Q x cs))
    go true = refl
    go false = refl

-- the best of a list, by what is in it
pub best_members : {A : Type 0} (O : Order A) → ((a b : A) → T (O.at_least a b) → T (O.at_least b a) → a ≡ b) → (l m : List A) → ((a : A) → Memᴰ a l → Memᴰ a m) → ((a : A) → Memᴰ a m → Memᴰ a l) → best_of O l ≡ best_of O m
best_members O equal l m up down =
    IsBest-same O equal (λ a. Memᴰ a m) (best_of O l) (best_of O m) (IsBest_iff O up down (best_of O l) (best_of_best O l)) (best_of_best O m)

pub any_order : {W C E : Type 0} (𝓦 : Weighting W) (A : Automaton C E) (Q : Same C) (high : ℕ) (all : List (State C)) → AnyOrder 𝓦 A Q high all
unfolding next
any_order 𝓦 A Q high all g U cs h x l =
    let e : eqb x.len 0 ≡ false = is_false (eqb x.len 0) (λ k. omega (arith, eqb→eq x.len 0 (true_T (eqb x.len 0) k))) in
    rw e
    (offered-is 𝓦.order Q (λ _. none) cs x
    ∙ best_members 𝓦.order 𝓦.equal (offered_to Q x cs) (offered_to Q x (offers 𝓦 A high g U all))
    (λ v m. to-offered_to Q x (offers 𝓦 A high g U all) v ((h x v).0 (of_offered_to Q x cs v m)))
    (λ v m. to-offered_to Q x cs v ((h x v).1 (of_offered_to Q x (offers 𝓦 A high g U all) v m))))
