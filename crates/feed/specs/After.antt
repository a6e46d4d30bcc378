-- What a call hands back: the state after it, or the refusal.
use Rattle.std.specs.Prelude.{ℕ, List, length, ℤ, Result}
use Rattle.pattern.specs.declared.Pattern.{Pattern}
use Rattle.pattern.specs.declared.Refusal.{Refusal}
use Rattle.monitor.specs.declared.State.{State}
use Rattle.monitor.specs.State.{no_ticks}
use Rattle.monitor.specs.Open.{answer_of, open_refusal}
use Rattle.monitor.specs.Feed.{Call, feed_refusal, feed_state}

-- what `open` hands back
abbrev pub opened_of : Pattern → (first second : List ℤ) → Result State Refusal
opened_of p t u = answer_of no_ticks (open_refusal p (length t) (length u))

-- What a call brings beside the pattern, the state and the tables.
abbrev pub call_of : (duration : ℕ) → (values : List ℤ) → (scores : List ℤ) → (lengths : List ℕ) → Call
call_of d vs scores lengths = record { duration = d; values = vs; scores = scores; lengths = lengths }

-- what `feed` hands back
abbrev pub fed_of : Pattern → State → (first second : List ℤ) → Call → Result State Refusal
fed_of p s t u c = answer_of (feed_state p s t u c) (feed_refusal p s t u c)
