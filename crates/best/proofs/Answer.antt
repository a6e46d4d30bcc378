-- The answer: from the choice over all ends to a run's end, begin and score.
use Prim.Native.Nat.{ℕ, ◌+◌, ◌-◌, ◌≤◌}
use native.Mathlib.Omega.{arith}
use mathlib.Core.Path.{◌≡◌, refl, subst, ◌∙◌}
use mathlib.Core.List.{[], ◌∷◌}
use mathlib.Core.Option.{Option, none, some}
use mathlib.Core.Bool.{Bool, true, false, not, cond}
use lib.ListN.{length}
use lib.IntN.{ℤ}
use Rattle.pattern.specs.declared.Pattern.{Pattern}
use Rattle.pattern.specs.declared.Refusal.TheVariants.{UnsoundPattern, BrokenRecord, TableTooShort}
use Rattle.pattern.specs.Sound.{sound_of}
use Rattle.record.specs.Record.{Book, record_sound, pieces_of, ticks_of, book_of}
use Rattle.record.specs.Worth.{price_of}
use Rattle.record.proofs.PriceLaws.{priced_parts}
use Rattle.std.specs.Prelude.{Ok}
use Rattle.monitor.specs.Open.{answer_of, first_cause, table_too_short}
use Rattle.monitor.specs.Demand.{InWindow}
use Rattle.monitor.proofs.Demand.{open_parts}
use Rattle.best.specs.Best.{Chosen, chosen_to, chosen_of, best_refusal, run_of, found_as, chosen_as}
use Rattle.best.specs.Claims.{Told, RunFrom, AnswerSays, BestAnswers, NothingInNothing, BestNumbers}
use Rattle.best.proofs.Ends.{best_of_record}
use Rattle.best.proofs.Whole.{causes}

module _ (p : Pattern) (b : Book) where
  -- by its begin, or by its length
  pub from-begin : (begin end : ℕ) (w : ℤ) → RunFrom p b begin end w → InWindow p b end (end - begin) w
  from-begin begin end w r = record { begin = begin; run = r.run; low = r.low; high = r.high }

  pub by_length : (end len : ℕ) (w : ℤ) → InWindow p b end len w → RunFrom p b (end - len) end w
  by_length end len w i =
      let e : i.begin + len ≡ end = i.run.ends in
      let begins : i.begin ≡ end - len = omega arith in
      let lasts : len ≡ end - (end - len) = omega arith in
      record {
        run = record {
          steps = i.run.steps;
          price = subst (λ (n : ℕ). price_of p b n i.run.steps ≡ some w) begins i.run.price;
          lasts = i.run.lasts ∙ lasts;
          ends = omega arith;
        };
        low = let l = i.low in omega arith;
        high = let l = i.high in omega arith;
      }

  -- a run ends in the book
  pub ends-inside : (begin end : ℕ) (w : ℤ) → RunFrom p b begin end w → end ≤ length b
  ends-inside begin end w r =
      let k = priced_parts p b begin r.run.steps w r.run.price in
      let low = k.1 in
      let l = r.run.lasts in
      let e = r.run.ends in
      omega arith

  pub said : (o : Option Chosen) → Told p b (length b) o → AnswerSays p b (Ok (run_of o))
  said none k = λ begin end w r. k end (end - begin) w (ends-inside begin end w r) (from-begin begin end w r)
  said (some f) k =
      record {
        attained = by_length f.end f.len f.score k.attained;
        inside = k.inside;
        none_better = λ a e w r. k.none_better e (e - a) w (ends-inside a e w r) (from-begin a e w r);
        none_earlier = λ a e r. k.none_earlier e (e - a) (ends-inside a e f.score r) (from-begin a e f.score r);
        none_shorter = λ a r. let l = k.none_shorter (f.end - a) (from-begin a f.end f.score r) in omega arith;
      }

pub best_answers : BestAnswers
best_answers p ds vs t u e =
    let k = causes p ds vs (length t) (length u) e in
    let sound = (open_parts p (length t) (length u) k.1).0 in
    let b = book_of p.channels ds vs in
    rw e (said p b (chosen_of p b) (best_of_record p sound b))

pub nothing-in-nothing : NothingInNothing
unfolding book_of pieces_of ticks_of chosen_to
nothing-in-nothing p vs t u e = rw e

pub best_numbers_lem : BestNumbers
unfolding best_refusal
best_numbers_lem p ds vs t u = by (not (sound_of p)) (not (record_sound p.channels ds vs)) (table_too_short p (length t) (length u)) (chosen_of p (book_of p.channels ds vs))
  where
    by : (x y z : Bool) (o : Option Chosen)
        → found_as (answer_of (run_of o) (first_cause ((x, UnsoundPattern) ∷ (y, BrokenRecord) ∷ (z, TableTooShort) ∷ [])))
        ≡ cond x (7, none) (cond y (8, none) (cond z (11, none) (0, chosen_as o)))
    by true y z o = refl
    by false true z o = refl
    by false false true o = refl
    by false false false none = refl
    by false false false (some f) = refl
