-- What is still to be printed, and what holds between two steps of the program: a layer below Watch.
use Rattle.std.specs.Prelude.{ℕ, ◌+◌, ◌-◌, ◌*◌, ◌≤◌, ◌<◌, min, ◌≡◌, ◌⊎◌, List, [], ◌∷◌, ◌++◌, Bool, true, false, cond, ◌&&◌, eqb, ltb, length, take, drop, replicate, ℤ, pos, None, Result, Ok, Err}
use Rattle.std.proofs.Math.Option.{Option, none, some}
use Rattle.pattern.specs.declared.Pattern.{Pattern}
use Rattle.pattern.specs.declared.Refusal.{Refusal}
use Rattle.pattern.specs.Sound.{no_pattern, sound_of}
use Rattle.pattern.specs.Cells.{cells_needed}
use Rattle.pattern_text.specs.Bytes.{Bytes}
use Rattle.pattern_text.specs.Text.{Answer, accepted, refused, pad}
use Rattle.record.specs.Record.{Book, total}
use Rattle.record_text.specs.Piece.{RawPiece, values_in}
use Rattle.record_text.specs.Text.{render_record, read_record, durations_of, record_refusal}
use Rattle.record_read.specs.declared.PieceRead.{PieceRead}
use Rattle.record_read.specs.Line.{piece_at}
use Rattle.monitor.specs.Cells.{written}
use Rattle.monitor.specs.declared.State.{State}
use Rattle.monitor.specs.State.{no_ticks}
use Rattle.monitor.specs.Open.{unless_refused, marks, open_first, open_second}
use Rattle.monitor.specs.Feed.{Call, feed_state, feed_first, feed_second, feed_scores, feed_lengths}
use Rattle.best.specs.declared.Search.{Search}
use Rattle.best.specs.Best.{chosen_of}
use Rattle.best.specs.Search.{table_to, chosen_in, chosen_past, chunk_of, SearchedTo}
use Rattle.text_put.specs.declared.Writer.{Writer}
use Rattle.text_put.specs.Put.{Puts}
use Rattle.watch_text.specs.Shown.{refused_text, heading, rows_from, rows_past, best_text}
use Rattle.watch_steps.specs.declared.Stage.{Stage}
use Rattle.watch_steps.specs.declared.Stage.TheVariants.{Refused, Heading, Rows, Done}
use Rattle.watch_steps.specs.declared.Cursor.{Cursor}
use Rattle.watch_steps.specs.declared.Watch.{Watch}
use Rattle.watch_steps.specs.declared.Step.{Step}
use Rattle.watch_steps.specs.Watch.{book_of_text, refusal_for}

abbrev pub is_done : Stage → Bool
is_done (Refused r) = false
is_done Heading = false
is_done Rows = false
is_done Done = true

-- ---- what is due

-- After n ticks of the book: the lines of the ends to come, and the last line.
unfoldable pub rows_due : Pattern → Book → (n : ℕ) → Bytes
rows_due p b n = rows_from p b n (length b - n) ++ best_text (chosen_of p b)

abbrev pub due_at : Stage → Pattern → Book → (n : ℕ) → Bytes
due_at (Refused r) p b n = refused_text r
due_at Heading p b n = heading ++ rows_due p b n
due_at Rows p b n = rows_due p b n
due_at Done p b n = []

abbrev pub due_for : (text : Bytes) → Watch → Bytes
due_for t w = due_at w.stage w.pattern (book_of_text w.pattern.channels t) w.search.state.ticks

-- ---- where the program stands in the record's text

-- Some ticks are left of the last of the pieces read.
pub record Inside (read : List RawPiece) (k : Cursor) : Type 0 where
  pub earlier : List RawPiece
  pub present : RawPiece
  pub is : read ≡ earlier ++ (present ∷ [])
  pub low : k.left ≤ present.duration
  pub values : k.values ≡ pad 8 (pos 0) (values_in present)

-- After n ticks: some pieces were read, and all their ticks but those left were fed.
pub record Position (t : Bytes) (n : ℕ) (k : Cursor) : Type 0 where
  pub read : List RawPiece
  pub further : List RawPiece
  pub reads : read_record t ≡ some (read ++ further)
  pub at : k.at ≡ length (render_record read)
  pub ticks : n + k.left ≡ total (durations_of read)
  pub now : (k.left ≡ 0) ⊎ Inside read k

-- The next piece is read once nothing is left of the one before it.
abbrev pub cursor_at : PieceRead → Cursor
cursor_at r = record { at = r.next; left = r.duration; values = r.values }

unfoldable pub moved_on : Bytes → Cursor → Cursor
moved_on t k = cond (eqb k.left 0 && ltb k.at (length t)) (cursor_at (piece_at t k.at)) k

-- ---- between two steps

-- The monitor and the choice are those after n ticks of the record's book.
pub record Underway (p : Pattern) (t : Bytes) (k : Cursor) (s : Search) (first second : List ℤ) : Type 0 where
  pub sound : sound_of p ≡ true
  pub fits : record_refusal p.channels t ≡ none
  pub position : Position t s.state.ticks k
  pub searched : SearchedTo p (book_of_text p.channels t) s.state.ticks s
  pub first_long : cells_needed p ≤ length first
  pub second_long : cells_needed p ≤ length second
  pub first_holds : first ≡ written p (table_to p (book_of_text p.channels t) s.state.ticks) first
  pub second_holds : second ≡ marks p second

-- by the stage; a refusal's line needs nothing of what is lent
abbrev pub StandingAt : Stage → (text : Bytes) → Watch → (first second : List ℤ) → Type 0
StandingAt (Refused r) t w first second = Unit
StandingAt Heading t w first second = Underway w.pattern t w.cursor w.search first second
StandingAt Rows t w first second = Underway w.pattern t w.cursor w.search first second
StandingAt Done t w first second = Unit

abbrev pub Standing : (text : Bytes) → Watch → (first second : List ℤ) → Type 0
Standing t w first second = StandingAt w.stage t w first second

-- How many steps may still come: one for each tick that is not fed, one for the last line, and one for the heading.
abbrev pub steps_at : Stage → Book → (n : ℕ) → ℕ
steps_at (Refused r) b n = 1
steps_at Heading b n = 2 + (length b - n)
steps_at Rows b n = 1 + (length b - n)
steps_at Done b n = 0

abbrev pub steps_left : (text : Bytes) → Watch → ℕ
steps_left t w = steps_at w.stage (book_of_text w.pattern.channels t) w.search.state.ticks

-- ---- a step

abbrev pub watch_at : Stage → Pattern → Cursor → Search → Watch
watch_at stage p k s = record { stage = stage; pattern = p; cursor = k; search = s }

-- A chunk of the present piece: up to 64 of the ticks that are left.
abbrev pub chunk : Pattern → Cursor → Call
chunk p k = chunk_of (min k.left 64) (take p.channels k.values)

-- The chunk that a step feeds: at the rows, as long as ticks are left; at a refusal, the heading and the last line none.
abbrev pub chunk_at : Stage → Pattern → Cursor → Option Call
chunk_at (Refused r) p k = none
chunk_at Heading p k = none
chunk_at Rows p k = cond (eqb k.left 0) none (some (chunk p k))
chunk_at Done p k = none

abbrev pub next_chunk : (text : Bytes) → Watch → Option Call
next_chunk t w = chunk_at w.stage w.pattern (moved_on t w.cursor)

-- The tables after a step: as feeding its chunk leaves them, and as they were if it feeds none.
abbrev pub first_past : Option Call → Pattern → State → (first second : List ℤ) → List ℤ
first_past none p s t u = t
first_past (some c) p s t u = feed_first p s t u c

abbrev pub second_past : Option Call → Pattern → State → (first second : List ℤ) → List ℤ
second_past none p s t u = u
second_past (some c) p s t u = feed_second p s t u c

-- The step's bytes are the first of those that were due, and it brings the program nearer to its end. The tables hold what the
-- step's chunk leaves in them, and the buffer past the step's bytes what it held.
pub record Stepped (t : Bytes) (w : Watch) (first second : List ℤ) (out : Bytes) (first' second' : List ℤ) (out' : Bytes) (r : Step) : Type 0 where
  pub standing : Standing t r.watch first' second'
  pub shown : due_for t w ≡ take r.length out' ++ due_for t r.watch
  pub within : r.length ≤ length out'
  pub fewer : steps_left t r.watch < steps_left t w
  pub first_holds : first' ≡ first_past (next_chunk t w) w.pattern w.search.state first second
  pub second_holds : second' ≡ second_past (next_chunk t w) w.pattern w.search.state first second
  pub past : drop r.length out' ≡ drop r.length out

-- The same of the lines that a step puts with a writer: they are the first bytes of those that were due, and fit a buffer of 4,096
-- bytes.
pub record StepPut (t : Bytes) (w : Watch) (first second : List ℤ) (out : Writer) (first' second' : List ℤ) (out' : Writer) (w' : Watch) : Type 0 where
  pub lines : Bytes
  pub put : Puts out out' lines
  pub few : length lines ≤ 4096
  pub due : due_for t w ≡ lines ++ due_for t w'
  pub standing : Standing t w' first' second'
  pub fewer : steps_left t w' < steps_left t w
  pub first_holds : first' ≡ first_past (next_chunk t w) w.pattern w.search.state first second
  pub second_holds : second' ≡ second_past (next_chunk t w) w.pattern w.search.state first second

-- What a step through a chunk does, in the words of feeding.
pub record ChunkPut (w : Watch) (t u : List ℤ) (o : Writer) (t' u' : List ℤ) (o' : Writer) (w' : Watch) : Type 0 where
  pub watch : w'
      ≡ watch_at w.stage w.pattern (record { at = w.cursor.at; left = w.cursor.left - min w.cursor.left 64; values = w.cursor.values }) w'.search
  pub state : w'.search.state ≡ feed_state w.pattern w.search.state t u (chunk w.pattern w.cursor)
  pub choice : chosen_in w'.search.choice
      ≡ chosen_past w.pattern (chosen_in w.search.choice) w.search.state.ticks (feed_scores w.pattern w.search.state t u (chunk w.pattern w.cursor)) (feed_lengths w.pattern w.search.state t u (chunk w.pattern w.cursor)) (min w.cursor.left 64)
  pub first : t' ≡ feed_first w.pattern w.search.state t u (chunk w.pattern w.cursor)
  pub second : u' ≡ feed_second w.pattern w.search.state t u (chunk w.pattern w.cursor)
  pub put : Puts o o' (rows_past w.search.state.ticks (feed_scores w.pattern w.search.state t u (chunk w.pattern w.cursor)) (feed_lengths w.pattern w.search.state t u (chunk w.pattern w.cursor)) (min w.cursor.left 64))
  pub few : length (rows_past w.search.state.ticks (feed_scores w.pattern w.search.state t u (chunk w.pattern w.cursor)) (feed_lengths w.pattern w.search.state t u (chunk w.pattern w.cursor)) (min w.cursor.left 64)) ≤ 64 * min w.cursor.left 64

-- ---- the start

-- Nothing read, nothing chosen.
abbrev pub start_at : Stage → Pattern → State → Watch
start_at stage p q =
    watch_at stage p (record { at = 0; left = 0; values = replicate 8 (pos 0) }) (record { state = q; choice = None })

abbrev pub stage_by : Option Refusal → Stage
stage_by none = Heading
stage_by (some r) = Refused r

-- by what the opening answers
abbrev pub start_with : Pattern → Result State Refusal → Watch
start_with p (Ok q) = start_at Heading p q
start_with p (Err r) = start_at (Refused r) p no_ticks

-- the pattern of a text; zeros throughout where it is refused
abbrev pub pattern_of : Answer → Pattern
pattern_of (accepted p) = p
pattern_of (refused r) = no_pattern

-- After both texts and the tables were judged: before the heading, or before the line of the first cause.
abbrev pub start_watch : Answer → (text : Bytes) → Watch
start_watch a t = start_at (stage_by (refusal_for a t)) (pattern_of a) no_ticks

-- The tables then: as the opening leaves them, and as they were at a refusal.
abbrev pub start_first : Answer → (text : Bytes) → (first second : List ℤ) → List ℤ
start_first a t first second = unless_refused (refusal_for a t) (open_first (pattern_of a) first second) first

abbrev pub start_second : Answer → (text : Bytes) → (first second : List ℤ) → List ℤ
start_second a t first second = unless_refused (refusal_for a t) (open_second (pattern_of a) first second) second
