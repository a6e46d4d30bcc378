-- What opening and feeding hand back to a host in C, and what they leave of what it lent: by the answer to the pattern's text,
-- what the library's definitions say of the pattern that was read. A refused text gives the reader's number and alters
-- nothing. The state's slice is read and written as `state_slice/specs` says.
use Rattle.std.specs.Prelude.{ℕ, List, cond, leb, length, ℤ, Result, Ok, Err}
use Rattle.pattern.specs.declared.Refusal.{Refusal}
use Rattle.pattern.specs.declared.Refusal.TheVariants.{BrokenState}
use Rattle.pattern.specs.Refusal.{number_of}
use Rattle.pattern_text.specs.Text.{Answer, accepted, refused}
use Rattle.monitor.specs.State.{no_ticks}
use Rattle.monitor.specs.Open.{answer_number, unless_refused, open_refusal, open_answer, open_first, open_second}
use Rattle.monitor.specs.Feed.{Call, feed_answer, feed_state, feed_first, feed_second, feed_scores, feed_lengths}
use Rattle.state_slice.specs.Slice.{holds_state, state_in, with_state}

-- ---- opening: 7, 11, then 12 for a slice that has no room for a state; what the slice held does not matter

-- the refusal's number, or another where there is none
abbrev pub number_or : Result (Unit {0}) Refusal → ℕ → ℕ
number_or (Ok a) n = n
number_or (Err r) n = number_of r

abbrev pub opened_number : Answer → (state first second : List ℤ) → ℕ
opened_number (refused r) l t u = number_of r
opened_number (accepted p) l t u = number_or (open_answer p t u) (cond (leb 9 (length l)) 0 (number_of BrokenState))

abbrev pub opened_state : Answer → (state first second : List ℤ) → List ℤ
opened_state (refused r) l t u = l
opened_state (accepted p) l t u =
    cond (leb 9 (length l)) (unless_refused (open_refusal p (length t) (length u)) (with_state no_ticks l) l) l

abbrev pub opened_first : Answer → (state first second : List ℤ) → List ℤ
opened_first (refused r) l t u = t
opened_first (accepted p) l t u = cond (leb 9 (length l)) (open_first p t u) t

abbrev pub opened_second : Answer → (state first second : List ℤ) → List ℤ
opened_second (refused r) l t u = u
opened_second (accepted p) l t u = cond (leb 9 (length l)) (open_second p t u) u

-- ---- feeding: 12 for a slice that holds no state at all; else the feed with the state that it holds

abbrev pub fed_number : Answer → (state first second : List ℤ) → Call → ℕ
fed_number (refused r) l t u c = number_of r
fed_number (accepted p) l t u c = cond (holds_state l) (answer_number (feed_answer p (state_in l) t u c)) (number_of BrokenState)

abbrev pub fed_state : Answer → (state first second : List ℤ) → Call → List ℤ
fed_state (refused r) l t u c = l
fed_state (accepted p) l t u c = cond (holds_state l) (with_state (feed_state p (state_in l) t u c) l) l

abbrev pub fed_first : Answer → (state first second : List ℤ) → Call → List ℤ
fed_first (refused r) l t u c = t
fed_first (accepted p) l t u c = cond (holds_state l) (feed_first p (state_in l) t u c) t

abbrev pub fed_second : Answer → (state first second : List ℤ) → Call → List ℤ
fed_second (refused r) l t u c = u
fed_second (accepted p) l t u c = cond (holds_state l) (feed_second p (state_in l) t u c) u

abbrev pub fed_scores : Answer → (state first second : List ℤ) → Call → List ℤ
fed_scores (refused r) l t u c = c.scores
fed_scores (accepted p) l t u c = cond (holds_state l) (feed_scores p (state_in l) t u c) c.scores

abbrev pub fed_lengths : Answer → (state first second : List ℤ) → Call → List ℕ
fed_lengths (refused r) l t u c = c.lengths
fed_lengths (accepted p) l t u c = cond (holds_state l) (feed_lengths p (state_in l) t u c) c.lengths
