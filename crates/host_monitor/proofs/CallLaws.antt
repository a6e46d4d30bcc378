-- From what the library's calls give to what a host in C is due.
use Prim.Native.Nat.{◌≤◌}
use mathlib.Core.Path.{◌≡◌, sym, ◌∙◌}
use mathlib.Core.List.{List}
use mathlib.Core.Option.{none, some}
use mathlib.Core.Bool.{true}
use borrow.Author.Tests.{le-leb}
use lib.ListN.{length}
use lib.IntN.{ℤ}
use Rattle.std.specs.Prelude.{Result, Ok, Err}
use Rattle.pattern.specs.declared.Pattern.{Pattern}
use Rattle.pattern.specs.declared.Refusal.{Refusal}
use Rattle.pattern.specs.Refusal.{number_of}
use Rattle.pattern_text.specs.Text.{accepted}
use Rattle.monitor.specs.declared.State.{State}
use Rattle.monitor.specs.State.{no_ticks}
use Rattle.monitor.specs.Open.{open_refusal, open_first, open_second}
use Rattle.monitor.specs.Feed.{Call, feed_refusal, feed_state}
use Rattle.monitor.proofs.Accepted.{done, handed, refused_for_lem}
use Rattle.feed.specs.After.{opened_of, fed_of}
use Rattle.state_slice.specs.Slice.{holds_state, state_in, with_state}
use Rattle.state_slice.proofs.Slices.{read-is-written}
use Rattle.host_monitor.specs.Calls.{opened_number, opened_state, opened_first, opened_second, fed_number, fed_state}

-- ---- an opening

module _ (p : Pattern) (l t u : List ℤ) (long : 9 ≤ length l) (r : Result State Refusal) (is : r ≡ opened_of p t u) where
  pub open_done : (s : State) → r ≡ Ok s
      → (0 ≡ opened_number (accepted p) l t u)
      × ((with_state s l ≡ opened_state (accepted p) l t u)
      × ((open_first p t u ≡ opened_first (accepted p) l t u) × (open_second p t u ≡ opened_second (accepted p) l t u)))
  open_done s a =
      let e : open_refusal p (length t) (length u) ≡ none = done _ _ (sym a ∙ is) in
      let f : s ≡ no_ticks = handed _ _ (sym a ∙ is) in
      (rw (le-leb 9 (length l) long, e), (rw (le-leb 9 (length l) long, e, f), (rw (le-leb 9 (length l) long), rw (le-leb 9 (length l) long))))

  pub open_refused : (q : Refusal) → r ≡ Err q
      → (number_of q ≡ opened_number (accepted p) l t u)
      × ((l ≡ opened_state (accepted p) l t u)
      × ((open_first p t u ≡ opened_first (accepted p) l t u) × (open_second p t u ≡ opened_second (accepted p) l t u)))
  open_refused q a =
      let e : open_refusal p (length t) (length u) ≡ some q = refused_for_lem _ _ _ (sym a ∙ is) in
      (rw (le-leb 9 (length l) long, e), (rw (le-leb 9 (length l) long, e), (rw (le-leb 9 (length l) long), rw (le-leb 9 (length l) long))))

-- ---- a feed

module _ (p : Pattern) (l t u : List ℤ) (c : Call) (holds : holds_state l ≡ true) where
  module _ (r : Result State Refusal) (is : r ≡ fed_of p (state_in l) t u c) where
    pub feed-done : (s : State) → r ≡ Ok s → (0 ≡ fed_number (accepted p) l t u c) × (with_state s l ≡ fed_state (accepted p) l t u c)
    feed-done s a =
        let e : feed_refusal p (state_in l) t u c ≡ none = done _ _ (sym a ∙ is) in
        let f : s ≡ feed_state p (state_in l) t u c = handed _ _ (sym a ∙ is) in
        (rw (holds, e), rw (holds, f))

    pub feed_refused : (q : Refusal) → r ≡ Err q → (number_of q ≡ fed_number (accepted p) l t u c) × (l ≡ fed_state (accepted p) l t u c)
    feed_refused q a =
        let e : feed_refusal p (state_in l) t u c ≡ some q = refused_for_lem _ _ _ (sym a ∙ is) in
        (rw (holds, e), rw (holds, e) (sym (read-is-written l holds)))
