-- The choice among the reports is the best over all ends: end by end.
use Prim.Native.Nat.{ℕ, zero, suc, ◌≤◌}
use native.Mathlib.Omega.{arith}
use mathlib.Core.Path.{◌≡◌, refl, sym, subst}
use mathlib.Core.Logic.{◌⊎◌, inl, inr, ⊎_elim}
use mathlib.Core.Bool.{Bool, true, false, not, cond}
use mathlib.Core.Option.{Option, none, some}
use borrow.Author.Tests.{leb-true, leb-false}
use lib.Dec.{T, leb}
use lib.ListN.{length}
use lib.IntN.{ℤ}
use Rattle.weighting.proofs.Weightings.{weighting_of}
use Rattle.weighting.specs.Order.{Order}
use Rattle.pattern.specs.declared.Pattern.{Pattern}
use Rattle.pattern.specs.Sound.{sound_of}
use Rattle.pattern.proofs.SoundLaws.{parts}
use Rattle.record.specs.Record.{Book}
use Rattle.monitor.specs.Demand.{InWindow, BestRun, NoRun}
use Rattle.monitor.proofs.Demand.{report-right}
use Rattle.best.specs.Best.{Chosen, chosen_with, chosen_to, chosen_of, score_at, length_at}
use Rattle.std.specs.Prelude.{Option as Maybe, Some, None, IfSome}
use Rattle.best.specs.declared.Choice.{Choice}
use Rattle.best.specs.Search.{chosen_in}
use Rattle.best.specs.Claims.{BestTo, NoneTo, Told, BestOfRecord}

module _ (p : Pattern) (sound : sound_of p ≡ true) (b : Book) where
  abbrev O : Order ℤ
  O = (weighting_of p.weighing).order

  -- a run in the window takes at least a tick
  lasts : (end m : ℕ) (w : ℤ) → InWindow p b end m w → (1 ≤ m) × (m ≤ end)
  lasts end m w i = let l = (parts p sound).some_low in let h = i.low in let e = i.run.ends in (omega arith, omega arith)

  up_to : (end n : ℕ) → end ≤ suc n → (end ≤ n) ⊎ (end ≡ suc n)
  up_to end n h = by (leb end n) refl
    where
      by : (x : Bool) → leb end n ≡ x → (end ≤ n) ⊎ (end ≡ suc n)
      by true e = inl (leb-true end n e)
      by false e = let l = leb-false end n e in inr (omega arith)

  module _ (n : ℕ) where
    -- the end suc n, by its report
    abbrev At : ℤ → ℕ → Type 0
    At s l = BestRun p b (suc n) s l ⊎ NoRun p b (suc n) s l

    at-end : {A : Type 0} (end m : ℕ) (w : ℤ) → end ≤ suc n → InWindow p b end m w → (end ≤ n → A) → (InWindow p b (suc n) m w → A) → A
    at-end end m w h i old new = ⊎_elim old (λ e. new (subst (λ (k : ℕ). InWindow p b k m w) e i)) (up_to end n h)

    none-there : (o : Option Chosen) → ((m : ℕ) (w : ℤ) → ¬ InWindow p b (suc n) m w) → Told p b n o → Told p b (suc n) o
    none-there none nothing k = λ end m w h i. at-end end m w h i (λ l. k end m w l i) (nothing m w)
    none-there (some f) nothing k =
        record {
          inside = let h = k.inside in omega arith;
          attained = k.attained;
          none_better = λ end m w h i. at-end end m w h i (λ l. k.none_better end m w l i) (λ j. absurd (nothing m w j));
          none_earlier = λ end m h i. at-end end m f.score h i (λ l. k.none_earlier end m l i) (λ j. absurd (nothing m f.score j));
          none_shorter = k.none_shorter;
        }

    module _ (s : ℤ) (l : ℕ) (r : BestRun p b (suc n) s (suc l)) where
      abbrev new : Chosen
      new = record { end = suc n; len = suc l; score = s }

      first : NoneTo p b n → BestTo p b (suc n) new
      first k =
          record {
            inside = omega arith;
            attained = r.attained;
            none_better = λ end m w h i. at-end end m w h i (λ q. absurd (k end m w q i)) (λ j. r.none_better m w j);
            none_earlier = λ end m h i. at-end end m s h i (λ q. absurd (k end m s q i)) (λ j. ⊎_elim (λ q. absurd (k end m s q i)) (λ e. omega arith) (up_to end n h));
            none_shorter = r.none_shorter;
          }

      stays : (f : Chosen) → BestTo p b n f → T (O.at_least f.score s) → BestTo p b (suc n) f
      stays f k good =
          record {
            inside = let h = k.inside in omega arith;
            attained = k.attained;
            none_better = λ end m w h i. at-end end m w h i (λ q. k.none_better end m w q i) (λ j. O.through f.score s w good (r.none_better m w j));
            none_earlier = λ end m h i. ⊎_elim (λ q. k.none_earlier end m q i) (λ e. let q = k.inside in omega arith) (up_to end n h);
            none_shorter = k.none_shorter;
          }

      yields : (f : Chosen) → BestTo p b n f → T (not (O.at_least f.score s)) → BestTo p b (suc n) new
      yields f k worse =
          record {
            inside = omega arith;
            attained = r.attained;
            none_better = λ end m w h i. at-end end m w h i (λ q. O.through s f.score w (O.either f.score s worse) (k.none_better end m w q i)) (λ j. r.none_better m w j);
            none_earlier = λ end m h i. ⊎_elim (λ q. absurd (clash (O.at_least f.score s) (k.none_better end m s q i) worse)) (λ e. omega arith) (up_to end n h);
            none_shorter = r.none_shorter;
          }
        where
          clash : (x : Bool) → T x → T (not x) → ⊥
          clash true a c = c
          clash false a c = a

      more : (o : Option Chosen) → Told p b n o → Told p b (suc n) (chosen_with p o (suc n) s (suc l))
      unfolding chosen_with
      more none k = first k
      more (some f) k = by (O.at_least f.score s) refl
        where
          by : (x : Bool) → O.at_least f.score s ≡ x → Told p b (suc n) (cond x (some f) (some new))
          by true e = stays f k (subst T (sym e) tt)
          by false e = yields f k (subst (λ (y : Bool). T (not y)) (sym e) tt)

    turn : (o : Option Chosen) (s : ℤ) (l : ℕ) → At s l → Told p b n o → Told p b (suc n) (chosen_with p o (suc n) s l)
    unfolding chosen_with
    turn o s zero =
        ⊎_elim (λ r k. let a = lasts (suc n) 0 s r.attained in let h : 1 ≤ 0 = a.0 in absurd (omega arith))
        (λ r k. none-there o r.none k)
    turn o s (suc l) =
        ⊎_elim (λ r k. more s l r o k)
        (λ r k. let e = r.no_length in absurd (omega arith))

  told : (n : ℕ) → n ≤ length b → Told p b n (chosen_to p b n)
  unfolding chosen_to
  told zero h = λ end m w l i. let a = lasts end m w i in let x : 1 ≤ m = a.0 in let y : m ≤ end = a.1 in omega arith
  told (suc n) h = turn n (chosen_to p b n) (score_at p b (suc n)) (length_at p b (suc n)) (report-right p sound b (suc n) h) (told n (omega arith))

pub best_of_record : BestOfRecord
best_of_record p sound b = told p sound b (length b) (omega arith)

-- a run that is chosen begins in the book
pub begins-inside : (p : Pattern) → sound_of p ≡ true → (b : Book) (o : Maybe Choice) → chosen_in o ≡ chosen_of p b → IfSome o (λ c. c.length ≤ c.end)
begins-inside p sound b None e = tt
begins-inside p sound b (Some c) e =
    let k = subst (Told p b (length b)) (sym e) (best_of_record p sound b) in
    (lasts p sound b c.end c.length c.score k.attained).1

-- a run that is reported begins in the book
pub report-inside : (p : Pattern) → sound_of p ≡ true → (b : Book) (end : ℕ) → end ≤ length b → length_at p b end ≤ end
report-inside p sound b end h =
    ⊎_elim (λ r. (lasts p sound b end (length_at p b end) (score_at p b end) r.attained).1) (λ r. let e = r.no_length in omega arith) (report-right p sound b end h)
