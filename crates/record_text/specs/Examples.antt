-- Document 01's record, and a few refusals, computed through the definitions.
use Rattle.std.specs.Prelude.{ℕ, ◌≡◌, refl, List, [], ◌∷◌, pos, negsuc}
use Prim.Native.String.{String}
use Rattle.std.proofs.Math.Option.{Option, none, some}
use Rattle.pattern.specs.declared.Refusal.{Refusal}
use Rattle.pattern.specs.declared.Refusal.TheVariants.{BrokenForm, BrokenRecord}
use Rattle.pattern_text.specs.Bytes.{bytes}
use Rattle.pattern_text.specs.Numeral.{decimal_f, decimal, front, after, plain, value_from, numeral_of}
use Rattle.pattern_text.specs.Form.{strip, ◌▸◌, ◌◂◌, ◌⨾◌, write_many, read_many, many, mapped, number, write_ℤ, integer}
use Rattle.record.specs.Record.{total, record_sound}
use Rattle.record_text.specs.Piece.{RawPiece, value, piece_line}
use Rattle.record_text.specs.Text.{record_form, render_record, read_record, durations_of, values_of, counts_fit, pieces_sound, record_refusal}
use Rattle.record_text.specs.Example.{example_text, example}

-- a quoted text, with all that reading it computes by
read_text : String → Option (List RawPiece)
unfolding strip ◌▸◌ ◌◂◌ ◌⨾◌ write_many read_many many mapped number write_ℤ integer decimal_f decimal front after plain value_from numeral_of total record_sound value piece_line record_form render_record read_record durations_of values_of counts_fit pieces_sound record_refusal
read_text s = read_record (bytes s)

refused_for : (channels : ℕ) → String → Option Refusal
unfolding read_text
refused_for n s = record_refusal n (bytes s)

pub reads : read_record example_text ≡ some example
unfolding read_text
reads = refl

writes : render_record example ≡ example_text
unfolding read_text
writes = refl

pub sound : record_refusal 1 example_text ≡ none
unfolding read_text
sound = refl

-- an empty record has no pieces
empty : read_text "" ≡ some []
unfolding read_text
empty = refl

empty-sound : refused_for 1 "" ≡ none
unfolding read_text refused_for
empty-sound = refl

-- three values, one of them below 0
three : read_text "(piece 7 -12 0 305)\n" ≡ some (record { duration = 7; value = negsuc 11; further = pos 0 ∷ pos 305 ∷ [] } ∷ [])
unfolding read_text
three = refl

-- no line feed; a leading zero; `-0`; no value; a minus before a duration; a place's line
no_feed_lem : read_text "(piece 2 10)" ≡ none
unfolding read_text
no_feed_lem = refl

leading_zero : read_text "(piece 02 10)\n" ≡ none
unfolding read_text
leading_zero = refl

minus-zero : read_text "(piece 2 -0)\n" ≡ none
unfolding read_text
minus-zero = refl

no_value : read_text "(piece 2)\n" ≡ none
unfolding read_text
no_value = refl

minus-duration : read_text "(piece -2 10)\n" ≡ none
unfolding read_text
minus-duration = refl

place : read_text "(place end)\n" ≡ none
unfolding read_text
place = refl

-- two values where the pattern has one channel, and one where it has two
too_many_lem : refused_for 1 "(piece 2 10 20)\n" ≡ some BrokenRecord
unfolding read_text refused_for
too_many_lem = refl

too_few : refused_for 2 "(piece 2 10)\n" ≡ some BrokenRecord
unfolding read_text refused_for
too_few = refl

-- one value and three where the pattern has two channels: each piece by itself is wrong
uneven : refused_for 2 "(piece 1 10)\n(piece 1 20 30 40)\n" ≡ some BrokenRecord
unfolding read_text refused_for
uneven = refl

-- a duration of 0; a value of -1,000,001; a total of 2,147,483,648
no_tick : refused_for 1 "(piece 0 10)\n" ≡ some BrokenRecord
unfolding read_text refused_for
no_tick = refl

low : refused_for 1 "(piece 2 -1000001)\n" ≡ some BrokenRecord
unfolding read_text refused_for
low = refl

long : refused_for 1 "(piece 2147483647 10)\n(piece 1 10)\n" ≡ some BrokenRecord
unfolding read_text refused_for
long = refl

long-enough : refused_for 1 "(piece 2147483646 10)\n(piece 1 10)\n" ≡ none
unfolding read_text refused_for
long-enough = refl

-- "a broken form anywhere 2, then 8": a later line's form comes before an earlier line's value
form_first : refused_for 1 "(piece 2 1000001)\n(piece 2 10\n" ≡ some BrokenForm
unfolding read_text refused_for
form_first = refl
