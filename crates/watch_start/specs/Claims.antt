-- What is proved of all steps together, and of what they print. The proofs are in proofs/Printed.antt and
-- proofs/Buffers.antt.
use Rattle.std.specs.Prelude.{◌+◌, ◌≤◌, ◌<◌, ◌≡◌, List, [], ◌∷◌, ◌++◌, true, false, length, take, ℤ}
use Rattle.std.proofs.Math.Option.{none, some}
use Rattle.pattern.specs.declared.Pattern.{Pattern}
use Rattle.pattern.specs.declared.Refusal.{Refusal}
use Rattle.pattern.specs.Cells.{cells_needed}
use Rattle.pattern_text.specs.Bytes.{Bytes, bytes}
use Rattle.pattern_text.specs.Text.{accepted, refused, read_of}
use Rattle.record_text.specs.Text.{record_refusal}
use Rattle.watch_text.specs.Shown.{feed, refused_text}
use Rattle.watch_text.specs.Claims.{Shows}
use Rattle.watch_steps.specs.declared.Watch.{Watch}
use Rattle.watch_steps.specs.declared.Step.{Step}
use Rattle.watch_steps.specs.Watch.{book_of_text, refusal_for, watch_of}
use Rattle.watch_steps.specs.Steps.{is_done, due_for, Standing, Stepped, start_watch, start_first, start_second}
use Rattle.watch_start.specs.Buffers.{pattern_buffer, record_buffer}

-- ---- the steps, by the promises of `start` and `next`

-- Where the program stands between two steps, and its tables.
pub record Stand : Type 0 where
  pub watch : Watch
  pub first : List ℤ
  pub second : List ℤ

-- What `start` promises, with what it was lent as tables.
pub record Started (pattern text : Bytes) (first second : List ℤ) (s : Stand) : Type 0 where
  pub watch : s.watch ≡ start_watch (read_of pattern) text
  pub first_holds : s.first ≡ start_first (read_of pattern) text first second
  pub second_holds : s.second ≡ start_second (read_of pattern) text first second
  pub standing : Standing text s.watch s.first s.second

-- A step: the buffer as it was lent, what `next` handed back, and what it left in the tables and in the buffer.
pub record Made : Type 0 where
  pub lent : Bytes
  pub step : Step
  pub first : List ℤ
  pub second : List ℤ
  pub out : Bytes

abbrev pub stands : Made → Stand
stands m = record { watch = m.step.watch; first = m.first; second = m.second }

-- Some steps one after the other: each is made where something is still to come, is as `next` promises, and the next one goes
-- on from where it left the program.
unfoldable pub Follow : (text : Bytes) → Stand → List Made → Type 0
Follow t s [] = Unit
Follow t s (m ∷ ms) =
    (is_done s.watch.stage ≡ false)
    × Stepped t s.watch s.first s.second m.lent m.first m.second m.out m.step
    × Follow t (stands m) ms

-- Where they lead.
unfoldable pub lead_to : Stand → List Made → Stand
lead_to s [] = s
lead_to s (m ∷ ms) = lead_to (stands m) ms

-- What the program writes: after each step the buffer's first `length` bytes.
unfoldable pub printed : List Made → Bytes
printed [] = []
printed (m ∷ ms) = take m.step.length m.out ++ printed ms

-- ---- theorems

-- Steps from the start until nothing is to come print what document 01 says for the two texts, and nothing else.
abbrev pub StepsPrint : Type 0
StepsPrint =
    (pattern text : Bytes) (first second : List ℤ) (s : Stand) → Started pattern text first second s → (ms : List Made) → Follow text s ms
    → is_done (lead_to s ms).watch.stage ≡ true → printed ms ≡ watch_of pattern text

-- Wherever the program is stopped before, it has printed the front of that.
abbrev pub PrintedSoFar : Type 0
PrintedSoFar =
    (pattern text : Bytes) (first second : List ℤ) (s : Stand) → Started pattern text first second s → (ms : List Made) → Follow text s ms
    → watch_of pattern text ≡ printed ms ++ due_for text (lead_to s ms).watch

-- The program ends: after any steps from the start the next one may be made, or nothing is to come; and there are never more
-- steps than the record has ticks, and two.
abbrev pub StepsEnd : Type 0
StepsEnd =
    (pattern text : Bytes) (first second : List ℤ) (s : Stand) → Started pattern text first second s → (ms : List Made) → Follow text s ms
    → Standing text (lead_to s ms).watch (lead_to s ms).first (lead_to s ms).second
    × (length ms ≤ 2 + length (book_of_text s.watch.pattern.channels text))

-- A start that is refused, for whichever cause, and the steps after it leave the tables as they were before the start.
abbrev pub StartRefusedAltersNothing : Type 0
StartRefusedAltersNothing =
    (pattern text : Bytes) (first second : List ℤ) (s : Stand) → Started pattern text first second s
    → (r : Refusal) → refusal_for (read_of pattern) text ≡ some r → (ms : List Made) → Follow text s ms
    → ((lead_to s ms).first ≡ first) × ((lead_to s ms).second ≡ second)

-- A pattern and a record that are accepted, and cells that fit the tables: the lines are right, each by the runs of the
-- record's book (`watch_text/specs/Claims`).
abbrev pub LinesRight : Type 0
LinesRight =
    (pattern text : Bytes) (p : Pattern) → read_of pattern ≡ accepted p → record_refusal p.channels text ≡ none → cells_needed p ≤ 2_048
    → Shows p (book_of_text p.channels text) (watch_of pattern text)

-- Everything else: "a refusal prints one line and no other, as `refused 11`; the pattern is judged first", then the record, then
-- the tables.
abbrev pub RefusalsAlone : Type 0
RefusalsAlone =
    (pattern text : Bytes)
    → ((r : Refusal) → read_of pattern ≡ refused r → watch_of pattern text ≡ refused_text r)
    × ((p : Pattern) (r : Refusal) → read_of pattern ≡ accepted p → record_refusal p.channels text ≡ some r → watch_of pattern text ≡ refused_text r)
    × ((p : Pattern) → read_of pattern ≡ accepted p → record_refusal p.channels text ≡ none → 2_048 < cells_needed p
    → watch_of pattern text ≡ bytes "refused 11" ++ feed)

-- The buffers that the files are read into are long enough: what is printed for the bytes in them is what is printed for the
-- whole files, however long these are.
abbrev pub BuffersSuffice : Type 0
BuffersSuffice = (pattern text : Bytes) → watch_of (take pattern_buffer pattern) (take record_buffer text) ≡ watch_of pattern text
