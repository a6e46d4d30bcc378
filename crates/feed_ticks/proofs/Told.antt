-- What a loop over the ticks of a piece keeps.
use Prim.Native.Nat.{ℕ, zero, suc, ◌+◌, ◌≤◌, ◌<◌}
use native.Mathlib.Omega.{arith}
use native.Mathlib.Numerals.{add-one}
use mathlib.Core.Path.{◌≡◌, refl, sym, ap, subst, ◌∙◌}
use mathlib.Core.List.{List, [], ◌∷◌, ◌++◌, map, map-append, append_assoc}
use lib.ListN.{length, drop, get_or, set, length-map, length-set}
use lib.Seq.{drop-cons, set_at}
use lib.IntN.{ℤ, pos}
use Rattle.table.specs.declared.fixed.Ground.{Ground}
use Rattle.table.specs.declared.View.{View}
use Rattle.table.specs.Moves.{tick_of}
use Rattle.table.specs.Reports.{told_of}
use Rattle.table.specs.Asks.{Gains, Whole, Ticking}
use Rattle.table.proofs.Steps.{known_of}
use Rattle.table_laws.proofs.Rows.{tick-keeps-whole, tick-leaves-further}
use Rattle.monitor.specs.Cells.{from, up_to}
use Rattle.monitor.proofs.Numbers.{from-length}
use Rattle.feed_ticks.specs.Ticks.{common, view_at, table_to, report_in, score_of, length_of, scores_to, lengths_to, Telling}

-- ---- a list made one by one

from_snoc : (i n : ℕ) → from i (suc n) ≡ from i n ++ ((i + n) ∷ [])
unfolding from
from_snoc i zero = let e : i ≡ i + 0 = omega arith in ap (λ (k : ℕ). k ∷ []) e
from_snoc i (suc n) = let e : suc i + n ≡ i + suc n = omega arith in ap (◌∷◌ i) (from_snoc (suc i) n ∙ ap (λ (k : ℕ). from (suc i) n ++ (k ∷ [])) e)

module _ {A : Type 0} (f : ℕ → A) where
  pub made_more : (l : List A) (i : ℕ) (d : A) → i < length l → set (map f (up_to i) ++ drop i l) i (f i) ≡ map f (up_to (i + 1)) ++ drop (i + 1) l
  made_more l i d h =
      let long : length (map f (up_to i)) ≡ i = length-map (up_to i) f ∙ from-length 0 i in
      let z : 0 + i ≡ i = omega arith in
      let more : map f (up_to (suc i)) ≡ map f (up_to i) ++ (f i ∷ []) =
      ap (map f) (from_snoc 0 i) ∙ map-append f (up_to i) ((0 + i) ∷ []) ∙ ap (λ (k : ℕ). map f (up_to i) ++ (f k ∷ [])) z in
      ap (λ (r : List A). set (map f (up_to i) ++ r) i (f i)) (drop-cons l i d h)
      ∙ set_at (map f (up_to i)) (get_or l i d) (drop (suc i) l) (f i) i long
      ∙ rw (add-one i, more) (sym (append_assoc (map f (up_to i)) (f i ∷ []) (drop (suc i) l)))

module _ (g : Ground) (v u : View) (t scores : List ℤ) (lengths : List ℕ) (duration : ℕ) where
  -- after i ticks
  pub record Told (i : ℕ) (first told : List ℤ) (ticks : List ℕ) : Type 0 where
    pub low : i ≤ duration
    pub first_is : first ≡ table_to (common g) v u t i
    pub scores_are : told ≡ scores_to (common g) v u t scores i
    pub lengths_are : ticks ≡ lengths_to (common g) v u t lengths i
    pub whole : Whole first g.layout
    pub first_is_long : length first ≡ length t
    pub scores_are_long : length told ≡ length scores
    pub lengths_are_long : length ticks ≡ length lengths

  module _ (h : Telling g.layout v u t (length scores) (length lengths) duration) where
    pub told_none : Told 0 t scores lengths
    unfolding table_to scores_to lengths_to from
    told_none = record { low = omega arith; first_is = refl; scores_are = refl; lengths_are = refl; whole = h.whole; first_is_long = refl; scores_are_long = refl; lengths_are_long = refl }

    pub ticking_at : (i : ℕ) (f s : List ℤ) (n : List ℕ) → Told i f s n → Ticking f g.layout (view_at v u i) g.edges g.count
    ticking_at zero f s n k = record { known = known_of g.laid g.edged h.first; whole = k.whole }
    ticking_at (suc i) f s n k = record { known = known_of g.laid g.edged h.later; whole = k.whole }

    pub gains_at : (i : ℕ) → Gains g.layout (view_at v u i)
    gains_at zero = h.first
    gains_at (suc i) = h.later

    pub told_more : (i : ℕ) (f s f' s' : List ℤ) (n n' : List ℕ) → Told i f s n → i < duration
        → f' ≡ tick_of g.layout g.weighing (view_at v u i) g.edges g.count g.starts f
        → s' ≡ set s i (score_of (told_of g.layout g.weighing (view_at v u i) g.edges g.count g.ends g.low f))
        → n' ≡ set n i (length_of (told_of g.layout g.weighing (view_at v u i) g.edges g.count g.ends g.low f))
        → Told (i + 1) f' s' n'
    unfolding table_to scores_to lengths_to
    told_more i f s f' s' n n' k l a b c =
        let next : tick_of g.layout g.weighing (view_at v u i) g.edges g.count g.starts f ≡ table_to (common g) v u t (suc i) =
        ap (tick_of g.layout g.weighing (view_at v u i) g.edges g.count g.starts) k.first_is in
        let told = h.scores_long in
        let long = h.lengths_long in
        let sl = k.scores_are_long in
        let nl = k.lengths_are_long in
        record {
          low = omega arith;
          first_is = a ∙ next ∙ ap (table_to (common g) v u t) (sym (add-one i));
          scores_are = b ∙ rw (k.first_is, k.scores_are) (made_more (λ j. score_of (report_in (common g) v u t j)) scores i (pos 0) (omega arith));
          lengths_are = c ∙ rw (k.first_is, k.lengths_are) (made_more (λ j. length_of (report_in (common g) v u t j)) lengths i 0 (omega arith));
          whole = subst (λ (x : List ℤ). Whole x g.layout) (sym a) (tick-keeps-whole g.layout g.weighing (view_at v u i) g.edges g.count g.starts g.ends f (ticking_at i f s n k));
          first_is_long = ap length a ∙ (tick-leaves-further g.layout g.weighing (view_at v u i) g.edges g.count g.starts g.ends f (ticking_at i f s n k)).0 ∙ k.first_is_long;
          scores_are_long = ap length b ∙ length-set s i _ ∙ k.scores_are_long;
          lengths_are_long = ap length c ∙ length-set n i _ ∙ k.lengths_are_long;
        }
