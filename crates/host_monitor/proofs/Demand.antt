-- A list of feeds from C is one of the library's, so demand 3 holds of it.
use Prim.Native.Nat.{◌≤◌}
use native.Mathlib.Omega.{arith}
use mathlib.Core.Path.{◌≡◌, refl, sym, subst, ◌∙◌}
use mathlib.Core.List.{List, [], ◌∷◌}
use mathlib.Core.Option.{Option, none, some}
use mathlib.Core.Bool.{Bool, true, false, cond}
use lib.Dec.{leb}
use lib.ListN.{length, drop, replicate, length-append, length-drop}
use lib.IntN.{ℤ, pos}
use Rattle.pattern.specs.declared.Pattern.{Pattern}
use Rattle.pattern.specs.declared.Refusal.{Refusal}
use Rattle.pattern.specs.declared.Refusal.TheVariants.{TextTooLong, BrokenForm, OutOfRange, TooMany, UnknownIndex, OutputTooShort, UnsoundPattern, BrokenRecord, BrokenSteps, NotARun, TableTooShort, BrokenState, TooManyTicks, BrokenCell}
use Rattle.pattern.specs.Refusal.{number_of}
use Rattle.pattern.specs.Slots.{all}
use Rattle.pattern.proofs.SoundLaws.{both, parts}
use Rattle.pattern_text.specs.Bytes.{Bytes}
use Rattle.pattern_text.specs.Text.{Answer, accepted, read_of}
use Rattle.pattern_text.proofs.Tools.{all_append}
use Rattle.record.specs.Record.{Book, value_in_range}
use Rattle.record.proofs.ListLaws.{all_drop}
use Rattle.monitor.specs.declared.State.{State}
use Rattle.monitor.specs.State.{no_ticks, piece_later}
use Rattle.monitor.specs.Open.{answer_of, unless_refused, open_refusal, open_first, open_second, open_state}
use Rattle.monitor.specs.Feed.{Call, feed_refusal, feed_state}
use Rattle.monitor.specs.Demand.{book_after, AllRight}
use Rattle.monitor.proofs.Demand.{demand3}
use Rattle.monitor.proofs.Accepted.{fed}
use Rattle.state_slice.specs.Slice.{is_value, holds_state, state_in, with_state}
use Rattle.state_slice.specs.Claims.{IsState}
use Rattle.state_slice.proofs.Entries.{in-range-is-value}
use Rattle.state_slice.proofs.Slices.{held-is-state, written-is-read}
use Rattle.host_monitor.specs.Calls.{number_or, opened_number, opened_state, opened_first, opened_second, fed_state, fed_first, fed_second}
use Rattle.host_monitor.specs.Claims.{GoesOn, AllFed, HostDemand3}

all-values : (l : List ℤ) → all value_in_range l ≡ true → all is_value l ≡ true
all-values [] e = refl
all-values (z ∷ l) e =
    let h = both (value_in_range z) (all value_in_range l) e in
    rw (in-range-is-value z h.0) (all-values l h.1)

-- what a feed leaves is a value of the type
after-is-state : (p : Pattern) (s : State) (t u : List ℤ) (c : Call) → IsState s → IsState (feed_state p s t u c)
after-is-state p s t u c k = by (feed_refusal p s t u c) refl
  where
    by : (o : Option Refusal) → feed_refusal p s t u c ≡ o → IsState (unless_refused o (piece_later p s c.duration c.values) s)
    by (some r) e = k
    by none e =
        let f = fed p s t (length u) c.duration c.values (length c.scores) (length c.lengths) e in
        let few = (parts p f.sound).few_channels in
        let room = f.room in
        let n = f.piece.count in
        let m = k.count in
        let d = length-drop p.channels s.last in
        record {
          ticks = omega arith;
          count = length-append c.values (drop p.channels s.last) ∙ omega arith;
          values = all_append is_value c.values (drop p.channels s.last) (all-values c.values f.piece.values) (all_drop is_value p.channels s.last k.values);
        }

module _ (x : Bytes) (p : Pattern) (is : read_of x ≡ accepted p) where
  goes_on : (l t u : List ℤ) (c : Call) → holds_state l ≡ true → GoesOn x p l t u c
  goes_on l t u c e =
      let w = written-is-read (feed_state p (state_in l) t u c) l (after-is-state p (state_in l) t u c (held-is-state l e)) in
      record {
        number = rw (is, e);
        holds = rw (is, e) w.0;
        state = rw (is, e) w.1;
        first = rw (is, e);
        second = rw (is, e);
        scores = rw (is, e);
        lengths = rw (is, e);
      }

  all_fed : (cs : List Call) (b : Book) (l t u : List ℤ) → holds_state l ≡ true → AllRight p b (state_in l) t u cs → AllFed x p b l t u cs
  all_fed [] b l t u e r = tt
  all_fed (c ∷ cs) b l t u e r =
      let g = goes_on l t u c e in (
        g,
        (
          r.0,
          all_fed cs (book_after p b c) (fed_state (read_of x) l t u c) (fed_first (read_of x) l t u c) (fed_second (read_of x) l t u c) g.holds
              (rw (g.state, g.first, g.second) r.1),
        ),
      )

-- no refusal has the number 0
some_number : (r : Refusal) → 1 ≤ number_of r
some_number TextTooLong = omega arith
some_number BrokenForm = omega arith
some_number OutOfRange = omega arith
some_number TooMany = omega arith
some_number UnknownIndex = omega arith
some_number OutputTooShort = omega arith
some_number UnsoundPattern = omega arith
some_number BrokenRecord = omega arith
some_number BrokenSteps = omega arith
some_number NotARun = omega arith
some_number TableTooShort = omega arith
some_number BrokenState = omega arith
some_number TooManyTicks = omega arith
some_number BrokenCell = omega arith

-- an opening that was accepted: there was no cause, and the slice has room for a state
open_said : (b : Bool) (o : Option Refusal) → number_or (answer_of (tt {0}) o) (cond b 0 12) ≡ 0 → (b ≡ true) × (o ≡ none)
open_said true none e = (refl, refl)
open_said false none e = absurd (omega arith)
open_said b (some r) e = let k = some_number r in absurd (omega arith)

no_ticks-is-state : IsState no_ticks
no_ticks-is-state = record { ticks = omega arith; count = refl; values = all-values (replicate 8 (pos 0)) refl }

pub host_demand3 : HostDemand3
host_demand3 x p i l t u e calls =
    let k = open_said (leb 9 (length l)) (open_refusal p (length t) (length u)) (subst (λ (a : Answer). opened_number a l t u ≡ 0) i e) in
    let w = written-is-read no_ticks l no_ticks-is-state in
    let o : opened_state (read_of x) l t u ≡ with_state no_ticks l = rw (i, k.0, k.1) in
    let f : opened_first (read_of x) l t u ≡ open_first p t u = rw (i, k.0) in
    let g : opened_second (read_of x) l t u ≡ open_second p t u = rw (i, k.0) in
    let d : AllRight p [] (open_state p t u no_ticks) (open_first p t u) (open_second p t u) calls = demand3 p no_ticks t u k.1 calls in
    let s : open_state p t u no_ticks ≡ no_ticks = rw k.1 in
    rw (o, f, g) (all_fed x p i calls [] (with_state no_ticks l) (open_first p t u) (open_second p t u) w.0
    (subst (λ (q : State). AllRight p [] q (open_first p t u) (open_second p t u) calls) (s ∙ sym w.1) d))
