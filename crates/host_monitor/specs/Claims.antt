-- What is claimed of opening and feeding for a host in C; the proofs are in proofs/.
use Rattle.std.specs.Prelude.{◌≤◌, ◌≡◌, List, [], ◌∷◌, true, not, cond, ◌&&◌, leb, length, ℤ}
use Rattle.pattern.specs.declared.Pattern.{Pattern}
use Rattle.pattern_text.specs.Bytes.{Bytes}
use Rattle.pattern_text.specs.Text.{Answer, accepted, read_of}
use Rattle.record.specs.Record.{Book}
use Rattle.monitor.specs.State.{state_sound}
use Rattle.monitor.specs.Open.{answer_number, table_too_short}
use Rattle.monitor.specs.Feed.{Call, piece_broken, too_many_ticks, cells_broken, reports_too_short, feed_answer, feed_state, feed_first, feed_second, feed_scores, feed_lengths}
use Rattle.monitor.specs.Demand.{refusal_by, book_after, Right}
use Rattle.state_slice.specs.Slice.{holds_state, state_in}
use Rattle.host_monitor.specs.Calls.{opened_number, opened_state, opened_first, opened_second, fed_number, fed_state, fed_first, fed_second, fed_scores, fed_lengths}

-- ---- the numbers for an accepted text. A pattern that was read is sound, so 7 is never among them; the causes are tried in
-- the order written.

-- Opening: 11, then 12 for a slice of fewer than 9 entries.
abbrev pub OpenedNumbers : Type 0
OpenedNumbers =
    (x : Bytes) (p : Pattern) → read_of x ≡ accepted p → (l t u : List ℤ)
    → opened_number (read_of x) l t u ≡ cond (table_too_short p (length t) (length u)) 11 (cond (leb 9 (length l)) 0 12)

-- Feeding: 12, for a slice that holds no state or a state that is not sound, 11, 8, 13, 14, 6.
abbrev pub FedNumbers : Type 0
FedNumbers =
    (x : Bytes) (p : Pattern) → read_of x ≡ accepted p → (l t u : List ℤ) (c : Call)
    → fed_number (read_of x) l t u c
    ≡ cond (not (holds_state l && state_sound p (state_in l))) 12
    (cond (table_too_short p (length t) (length u)) 11
    (cond (piece_broken p c.duration c.values) 8
    (cond (too_many_ticks (state_in l).ticks c.duration) 13
    (cond (cells_broken p t) 14
    (cond (reports_too_short (length c.scores) (length c.lengths) c.duration) 6 0)))))

-- ---- "A refusal .. alters no lent memory."

abbrev pub OpenRefusedAltersNothing : Type 0
OpenRefusedAltersNothing =
    (a : Answer) (l t u : List ℤ) → 1 ≤ opened_number a l t u
    → (opened_state a l t u ≡ l) × (opened_first a l t u ≡ t) × (opened_second a l t u ≡ u)

abbrev pub FeedRefusedAltersNothing : Type 0
FeedRefusedAltersNothing =
    (a : Answer) (l t u : List ℤ) (c : Call) → 1 ≤ fed_number a l t u c
    → (fed_state a l t u c ≡ l) × (fed_first a l t u c ≡ t) × (fed_second a l t u c ≡ u)
    × (fed_scores a l t u c ≡ c.scores) × (fed_lengths a l t u c ≡ c.lengths)

-- ---- demand 3

-- A feed from C, with a text x that is read as p and a slice that holds a state, is the library's feed of that state: it answers
-- the same and leaves the same, and the slice then holds the state that the library's feed leaves.
pub record GoesOn (x : Bytes) (p : Pattern) (l t u : List ℤ) (c : Call) : Type 0 where
  pub number : fed_number (read_of x) l t u c ≡ answer_number (feed_answer p (state_in l) t u c)
  pub holds : holds_state (fed_state (read_of x) l t u c) ≡ true
  pub state : state_in (fed_state (read_of x) l t u c) ≡ feed_state p (state_in l) t u c
  pub first : fed_first (read_of x) l t u c ≡ feed_first p (state_in l) t u c
  pub second : fed_second (read_of x) l t u c ≡ feed_second p (state_in l) t u c
  pub scores : fed_scores (read_of x) l t u c ≡ feed_scores p (state_in l) t u c
  pub lengths : fed_lengths (read_of x) l t u c ≡ feed_lengths p (state_in l) t u c

-- A list of feeds from C, each with the same text x and going on from what the one before it left: each is the library's feed,
-- and right as demand 3 says (`monitor/specs/Demand` Right: accepted or refused by the book, with the best runs as its reports).
abbrev pub AllFed : Bytes → Pattern → Book → (state first second : List ℤ) → List Call → Type 0
AllFed x p b l t u [] = Unit
AllFed x p b l t u (c ∷ cs) =
    GoesOn x p l t u c
    × (Right p (refusal_by p b c) b (state_in l) t u c
    × AllFed x p (book_after p b c) (fed_state (read_of x) l t u c) (fed_first (read_of x) l t u c) (fed_second (read_of x) l t u c) cs)

-- Demand 3 of the functions for C: for every list of feeds after an accepted opening, with whatever the slices held before it,
-- where every call of the list has the text of the opening. The pattern is read anew at each call, and nothing keeps a host
-- from changing the text between two calls: then a call is judged by the other pattern, and the claim says nothing of it.
abbrev pub HostDemand3 : Type 0
HostDemand3 =
    (x : Bytes) (p : Pattern) → read_of x ≡ accepted p → (l t u : List ℤ) → opened_number (read_of x) l t u ≡ 0 → (calls : List Call)
    → AllFed x p [] (opened_state (read_of x) l t u) (opened_first (read_of x) l t u) (opened_second (read_of x) l t u) calls
