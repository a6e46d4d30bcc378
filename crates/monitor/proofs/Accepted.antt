-- What an accepted call may go by: each check's outcome, from an answer that is `Ok`.
use Prim.Native.Nat.{ℕ, ◌+◌, ◌≤◌}
use native.Mathlib.Omega.{arith}
use mathlib.Core.Path.{◌≡◌, refl, sym}
use mathlib.Core.List.{List, [], ◌∷◌}
use mathlib.Core.Option.{Option, none, some, none-ne-some}
use mathlib.Core.Bool.{Bool, true, false, not, ◌&&◌, ◌||◌}
use borrow.Author.Tests.{leb-true, ltb-false, eqb-true, not-false, le-ltb}
use lib.Dec.{eqb, leb, ltb}
use lib.ListN.{length, take}
use lib.IntN.{ℤ}
use Rattle.std.specs.Prelude.{Ok, Err}
use Rattle.pattern.specs.declared.Pattern.{Pattern}
use Rattle.pattern.specs.declared.Refusal.{Refusal}
use Rattle.pattern.specs.declared.Refusal.TheVariants.{UnsoundPattern, BrokenState, TableTooShort, BrokenRecord, TooManyTicks, BrokenCell, OutputTooShort}
use Rattle.pattern.specs.Slots.{all, within}
use Rattle.pattern.specs.Sound.{sound_of}
use Rattle.pattern.specs.Cells.{cells_needed}
use Rattle.pattern.specs.Distance.{Sample}
use Rattle.pattern.proofs.SoundLaws.{both}
use Rattle.record.specs.Record.{value_in_range}
use Rattle.monitor.specs.declared.State.{State}
use Rattle.monitor.specs.State.{state_sound}
use Rattle.monitor.specs.Open.{answer_of, first_cause, table_too_short, open_refusal}
use Rattle.monitor.specs.Feed.{cell_fine, piece_broken, too_many_ticks, cells_broken, reports_too_short, feed_cause}

-- ---- no cause

pub no_cause : (x : Bool) (r : Refusal) (cs : List (Bool × Refusal)) → first_cause ((x, r) ∷ cs) ≡ none → (x ≡ false) × (first_cause cs ≡ none)
no_cause true r cs e = absurd (none-ne-some r (sym e))
no_cause false r cs e = (refl, e)

pub neither : (x y : Bool) → x || y ≡ false → (x ≡ false) × (y ≡ false)
neither true y e = (e, absurd (no e))
  where
    no : ◌≡◌ {A = Bool} true false → ⊥
    no e = let z : ◌≡◌ {A = ℕ} 0 1 = cc in omega arith
neither false y e = (refl, e)

-- ---- an answer says whether there was a cause

pub done : {A : Type 0} (a : A) {x : A} (o : Option Refusal) → Ok x ≡ answer_of a o → o ≡ none
done a none e = refl
done a (some r) e = cc

-- and hands back what is due
pub handed : {A : Type 0} (a : A) {x : A} (o : Option Refusal) → Ok x ≡ answer_of a o → x ≡ a
handed a none e = cc
handed a (some r) e = cc

pub refused_for_lem : {A : Type 0} (a : A) (o : Option Refusal) (r : Refusal) → Err r ≡ answer_of a o → o ≡ some r
refused_for_lem a none r e = cc
refused_for_lem a (some q) r e = cc

-- ---- both tables are long enough

pub record Long (p : Pattern) (m n : ℕ) : Type 0 where
  pub first : cells_needed p ≤ m
  pub second : cells_needed p ≤ n

pub long : (p : Pattern) (first second : ℕ) → table_too_short p first second ≡ false → Long p first second
long p m n e =
    let h = neither (ltb m (cells_needed p)) (ltb n (cells_needed p)) e in
    record { first = ltb-false m (cells_needed p) h.0; second = ltb-false n (cells_needed p) h.1 }

-- ---- an opening

pub record Opened (p : Pattern) (first second : ℕ) : Type 0 where
  pub sound : sound_of p ≡ true
  pub tables : Long p first second

pub opened : (p : Pattern) (first second : ℕ) → open_refusal p first second ≡ none → Opened p first second
unfolding open_refusal
opened p m n e =
    let short : List (Bool × Refusal) = (table_too_short p m n, TableTooShort) ∷ [] in
    let one = no_cause (not (sound_of p)) UnsoundPattern short e in
    let two = no_cause (table_too_short p m n) TableTooShort [] one.1 in
    record { sound = not-false _ one.0; tables = long p m n two.0 }

-- ---- a piece

pub record Whole (p : Pattern) (d : ℕ) (vs : Sample) : Type 0 where
  pub low : 1 ≤ d
  pub high : d ≤ 65535
  pub count : length vs ≡ p.channels
  pub values : all value_in_range vs ≡ true

pub whole : (p : Pattern) (d : ℕ) (vs : Sample) → piece_broken p d vs ≡ false → Whole p d vs
unfolding piece_broken
whole p d vs e =
    let h = both (within 1 65535 d && eqb (length vs) p.channels) (all value_in_range vs) (not-false _ e) in
    let k = both (within 1 65535 d) (eqb (length vs) p.channels) h.0 in
    let l = both (leb 1 d) (leb d 65535) k.0 in
    record {
      low = leb-true 1 d l.0;
      high = leb-true d 65535 l.1;
      count = eqb-true (length vs) p.channels k.1;
      values = h.1;
    }

-- ---- a feed

pub record Fed (p : Pattern) (s : State) (t : List ℤ) (second d : ℕ) (vs : Sample) (m n : ℕ) : Type 0 where
  pub sound : sound_of p ≡ true
  pub state : state_sound p s ≡ true
  pub tables : Long p (length t) second
  pub piece : Whole p d vs
  pub room : s.ticks + d ≤ 2147483647
  pub cells : all cell_fine (take (cells_needed p) t) ≡ true
  pub scores : d ≤ m
  pub lengths : d ≤ n

pub fed : (p : Pattern) (s : State) (t : List ℤ) (second d : ℕ) (vs : Sample) (scores lengths : ℕ)
    → feed_cause p s t second d vs scores lengths ≡ none → Fed p s t second d vs scores lengths
unfolding feed_cause cells_broken
fed p s t second d vs scores lengths e =
    let six : List (Bool × Refusal) = (reports_too_short scores lengths d, OutputTooShort) ∷ [] in
    let five : List (Bool × Refusal) = (cells_broken p t, BrokenCell) ∷ six in
    let four : List (Bool × Refusal) = (too_many_ticks s.ticks d, TooManyTicks) ∷ five in
    let three : List (Bool × Refusal) = (piece_broken p d vs, BrokenRecord) ∷ four in
    let two : List (Bool × Refusal) = (table_too_short p (length t) second, TableTooShort) ∷ three in
    let one : List (Bool × Refusal) = (not (state_sound p s), BrokenState) ∷ two in
    let a = no_cause (not (sound_of p)) UnsoundPattern one e in
    let b = no_cause (not (state_sound p s)) BrokenState two a.1 in
    let c = no_cause (table_too_short p (length t) second) TableTooShort three b.1 in
    let f = no_cause (piece_broken p d vs) BrokenRecord four c.1 in
    let g = no_cause (too_many_ticks s.ticks d) TooManyTicks five f.1 in
    let h = no_cause (cells_broken p t) BrokenCell six g.1 in
    let i = no_cause (reports_too_short scores lengths d) OutputTooShort [] h.1 in
    let slices = neither (ltb scores d) (ltb lengths d) i.0 in
    record {
      sound = not-false _ a.0;
      state = not-false _ b.0;
      tables = long p (length t) second c.0;
      piece = whole p d vs f.0;
      room = ltb-false 2147483647 (s.ticks + d) g.0;
      cells = not-false _ h.0;
      scores = ltb-false scores d slices.0;
      lengths = ltb-false lengths d slices.1;
    }

-- of the second table only that it is long enough counts
pub any_second : (p : Pattern) (s : State) (t : List ℤ) (second other d : ℕ) (vs : Sample) (scores lengths : ℕ)
    → feed_cause p s t second d vs scores lengths ≡ none → cells_needed p ≤ other → feed_cause p s t other d vs scores lengths ≡ none
unfolding feed_cause
any_second p s t second other d vs scores lengths e h =
    let k = (fed p s t second d vs scores lengths e).tables in
    let a : table_too_short p (length t) second ≡ false = rw (le-ltb (length t) (cells_needed p) k.first, le-ltb second (cells_needed p) k.second) in
    let b : table_too_short p (length t) other ≡ false = rw (le-ltb (length t) (cells_needed p) k.first, le-ltb other (cells_needed p) h) in
    rw b (rw a at e)
