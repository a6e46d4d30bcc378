-- The numbers of the calls for an accepted text, and that a refusal alters nothing.
use Prim.Native.Nat.{ℕ, ◌≤◌}
use native.Mathlib.Omega.{arith}
use mathlib.Core.Path.{◌≡◌, refl}
use mathlib.Core.List.{List}
use mathlib.Core.Option.{Option, none, some}
use mathlib.Core.Bool.{Bool, true, false, not, cond}
use lib.ListN.{length}
use lib.IntN.{ℤ, pos}
use Rattle.pattern.specs.declared.Refusal.{Refusal}
use Rattle.pattern_text.specs.Text.{accepted, refused}
use Rattle.record.specs.Record.{record_sound, book_of}
use Rattle.record.specs.Run.{steps_of}
use Rattle.record.specs.Worth.{price_of}
use Rattle.price.specs.Price.{steps_fit, priced_as, scored_as, priced_of}
use Rattle.price.proofs.Numbers.{priced_numbers_lem}
use Rattle.monitor.specs.Open.{answer_of, unless_refused, table_too_short}
use Rattle.std.specs.Prelude.{Option as Maybe, Some, None, Result, Ok, Err}
use Rattle.best.specs.declared.Run.{Run}
use Rattle.best.specs.Best.{Chosen, best_refusal, run_of, best_of, chosen_of, found_as, chosen_as}
use Rattle.best.proofs.Answer.{best_numbers_lem}
use Rattle.host_monitor.proofs.Claims.{read-sound}
use Rattle.host_told.specs.Told.{price_told, best_told}
use Rattle.host.specs.Claims.{PriceNumbers, RecordNumbers, BestRefusedAltersNothing}

-- ---- the numbers

price_refusal : (a : Result ℤ Refusal) → (price_told a).refusal ≡ (priced_as a).0
price_refusal (Ok w) = refl
price_refusal (Err r) = refl

price-by : (a b : Bool) (k : ℕ × ℤ) → (cond a (cond b k (9, pos 0)) (8, pos 0)).0 ≡ cond a (cond b k.0 9) 8
price-by true true k = refl
price-by true false k = refl
price-by false b k = refl

pub price-numbers : PriceNumbers
price-numbers x p e ds vs begin es ss =
    rw (e, price_refusal (priced_of p ds vs begin es ss), priced_numbers_lem p ds vs begin es ss, read-sound x p e)
    (price-by (record_sound p.channels ds vs) (steps_fit ds begin es ss) (scored_as (price_of p (book_of p.channels ds vs) begin (steps_of es ss))))

best_refusal_lem : (a : Result (Maybe Run) Refusal) → (best_told a).refusal ≡ (found_as a).0
best_refusal_lem (Ok (Some r)) = refl
best_refusal_lem (Ok None) = refl
best_refusal_lem (Err r) = refl

best_by : (a b : Bool) (k : Option (ℕ × ℕ × ℤ)) → (cond {A = ℕ × Option (ℕ × ℕ × ℤ)} (not a) (8, none) (cond b (11, none) (0, k))).0 ≡ cond (not a) 8 (cond b 11 0)
best_by true true k = refl
best_by true false k = refl
best_by false b k = refl

pub record_numbers : RecordNumbers
record_numbers x p e ds vs t u =
    rw (e, best_refusal_lem (best_of p ds vs t u), best_numbers_lem p ds vs t u, read-sound x p e)
    (best_by (record_sound p.channels ds vs) (table_too_short p (length t) (length u)) (chosen_as (chosen_of p (book_of p.channels ds vs))))

-- ---- a refusal alters nothing

best_still : (o : Option Refusal) (f : Option Chosen) (t u t' u' : List ℤ) → 1 ≤ (best_told (answer_of (run_of f) o)).refusal
    → (unless_refused o t' t ≡ t) × (unless_refused o u' u ≡ u)
best_still (some r) f t u t' u' h = (refl, refl)
best_still none none t u t' u' h = absurd (omega arith)
best_still none (some f) t u t' u' h = absurd (omega arith)

pub best_refused_alters_nothing : BestRefusedAltersNothing
best_refused_alters_nothing (refused r) ds vs t u h = (refl, refl)
best_refused_alters_nothing (accepted p) ds vs t u h = best_still (best_refusal p ds vs (length t) (length u)) (chosen_of p (book_of p.channels ds vs)) t u _ _ h
