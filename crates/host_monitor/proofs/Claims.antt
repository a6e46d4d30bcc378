-- The numbers of the calls for an accepted text, and that a refusal alters nothing.
use Prim.Native.Nat.{ℕ, ◌≤◌}
use native.Mathlib.Omega.{arith}
use mathlib.Core.Path.{◌≡◌, refl}
use mathlib.Core.List.{List}
use mathlib.Core.Option.{Option, none, some}
use mathlib.Core.Bool.{Bool, true, false, not, cond, ◌&&◌}
use lib.Dec.{leb}
use lib.ListN.{length}
use lib.IntN.{ℤ}
use Rattle.pattern.specs.declared.Pattern.{Pattern}
use Rattle.pattern.specs.declared.Refusal.{Refusal}
use Rattle.pattern.specs.declared.Refusal.TheVariants.{TableTooShort}
use Rattle.pattern.specs.Sound.{sound_of}
use Rattle.pattern_text.specs.Bytes.{Bytes}
use Rattle.pattern_text.specs.Text.{accepted, refused, read_of}
use Rattle.pattern_text.proofs.Theorems.{texts_exact}
use Rattle.monitor.specs.declared.State.{State}
use Rattle.monitor.specs.State.{state_sound}
use Rattle.monitor.specs.Open.{answer_of, answer_number, unless_refused, table_too_short, open_refusal}
use Rattle.monitor.specs.Feed.{Call, feed_refusal}
use Rattle.monitor.proofs.Answers.{feed-numbers}
use Rattle.state_slice.specs.Slice.{holds_state, state_in, with_state}
use Rattle.state_slice.proofs.Slices.{read-is-written}
use Rattle.host_monitor.specs.Calls.{number_or}
use Rattle.host_monitor.specs.Claims.{OpenedNumbers, FedNumbers, OpenRefusedAltersNothing, FeedRefusedAltersNothing}

-- a pattern that was read is sound
pub read-sound : (x : Bytes) (p : Pattern) → read_of x ≡ accepted p → sound_of p ≡ true
read-sound x p e = ((texts_exact x p).0 e).0

-- ---- the numbers

open_by : (b : Bool) (n : ℕ) → number_or (answer_of (tt {0}) (cond b (some TableTooShort) none)) n ≡ cond b 11 n
open_by true n = refl
open_by false n = refl

pub opened_numbers : OpenedNumbers
unfolding open_refusal
opened_numbers x p e l t u = rw (e, read-sound x p e) (open_by (table_too_short p (length t) (length u)) (cond (leb 9 (length l)) 0 12))

feed-by : (h g : Bool) (k : ℕ) → cond h (cond (not g) 12 k) 12 ≡ cond (not (h && g)) 12 k
feed-by true g k = refl
feed-by false g k = refl

pub fed_numbers : FedNumbers
fed_numbers x p e l t u c = rw (e, feed-numbers p (state_in l) t u c, read-sound x p e) (feed-by (holds_state l) (state_sound p (state_in l)) _)

-- ---- a refusal alters nothing

open_still : (b : Bool) (o : Option Refusal) (l t u l' t' u' : List ℤ) → 1 ≤ number_or (answer_of (tt {0}) o) (cond b 0 12)
    → (cond b (unless_refused o l' l) l ≡ l) × (cond b (unless_refused o t' t) t ≡ t) × (cond b (unless_refused o u' u) u ≡ u)
open_still true none l t u l' t' u' h = absurd (omega arith)
open_still true (some r) l t u l' t' u' h = (refl, refl, refl)
open_still false o l t u l' t' u' h = (refl, refl, refl)

pub open_refused_alters_nothing : OpenRefusedAltersNothing
open_refused_alters_nothing (refused r) l t u h = (refl, refl, refl)
open_refused_alters_nothing (accepted p) l t u h = open_still (leb 9 (length l)) (open_refusal p (length t) (length u)) l t u _ _ _ h

module _ (l t u : List ℤ) (c : Call) (s : State) (t' u' ss : List ℤ) (ls : List ℕ) where
  feed-still : (b : Bool) → holds_state l ≡ b → (o : Option Refusal) → 1 ≤ cond b (answer_number (answer_of (tt {0}) o)) 12
      → (cond b (with_state (unless_refused o s (state_in l)) l) l ≡ l) × (cond b (unless_refused o t' t) t ≡ t) × (cond b (unless_refused o u' u) u ≡ u)
      × (cond b (unless_refused o ss c.scores) c.scores ≡ c.scores) × (cond b (unless_refused o ls c.lengths) c.lengths ≡ c.lengths)
  feed-still true e none h = absurd (omega arith)
  feed-still true e (some r) h = (read-is-written l e, refl, refl, refl, refl)
  feed-still false e o h = (refl, refl, refl, refl, refl)

pub feed_refused_alters_nothing : FeedRefusedAltersNothing
feed_refused_alters_nothing (refused r) l t u c h = (refl, refl, refl, refl, refl)
feed_refused_alters_nothing (accepted p) l t u c h = feed-still l t u c _ _ _ _ _ (holds_state l) refl (feed_refusal p (state_in l) t u c) h
