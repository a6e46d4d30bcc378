-- What `watch` prints, by the texts of pattern.txt and of record.txt (document 01, 'The watch program').
use Rattle.std.specs.Prelude.{ℕ, List, [], cond, ltb}
use Rattle.std.proofs.Math.Option.{Option, none, some}
use Rattle.pattern.specs.declared.Pattern.{Pattern}
use Rattle.pattern.specs.declared.Refusal.{Refusal}
use Rattle.pattern.specs.declared.Refusal.TheVariants.{TableTooShort}
use Rattle.pattern.specs.Cells.{cells_needed}
use Rattle.pattern_text.specs.Bytes.{Bytes}
use Rattle.pattern_text.specs.Text.{Answer, accepted, refused, read_of}
use Rattle.record.specs.Record.{Book, book_of}
use Rattle.record_text.specs.Piece.{RawPiece}
use Rattle.record_text.specs.Text.{read_record, durations_of, values_of, record_refusal}
use Rattle.watch_text.specs.Shown.{refused_text, shown_for}

-- The book of a record's text.
abbrev pub book_in : (channels : ℕ) → Option (List RawPiece) → Book
book_in n none = []
book_in n (some rs) = book_of n (durations_of rs) (values_of rs)

abbrev pub book_of_text : (channels : ℕ) → Bytes → Book
book_of_text n t = book_in n (read_record t)

-- "Its tables have 2,048 cells each."
abbrev pub tables_refusal : Pattern → Option Refusal
tables_refusal p = cond (ltb 2_048 (cells_needed p)) (some TableTooShort) none

-- the first cause, or else the second
abbrev pub or_cause : Option Refusal → Option Refusal → Option Refusal
or_cause none o = o
or_cause (some r) o = some r

-- "A refusal prints one line and no other".
abbrev pub unless_cause : Option Refusal → Bytes → Bytes
unless_cause none shown = shown
unless_cause (some r) shown = refused_text r

-- The first cause: "the pattern is judged first", then the record, then the tables.
abbrev pub refusal_for : Answer → (text : Bytes) → Option Refusal
refusal_for (refused r) t = some r
refusal_for (accepted p) t = or_cause (record_refusal p.channels t) (tables_refusal p)

abbrev pub answered_with : Answer → (text : Bytes) → Bytes
answered_with (refused r) t = refused_text r
answered_with (accepted p) t = unless_cause (refusal_for (accepted p) t) (shown_for p (book_of_text p.channels t))

abbrev pub watch_of : (pattern text : Bytes) → Bytes
watch_of pt t = answered_with (read_of pt) t
