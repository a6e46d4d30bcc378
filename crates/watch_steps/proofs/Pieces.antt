-- A piece of a text that is not refused, as the record's slices have it.
use Prim.Native.Nat.{ℕ, suc, ◌+◌, ◌<◌}
use native.Mathlib.Omega.{arith}
use mathlib.Core.Path.{◌≡◌, refl, sym, ap, ◌∙◌}
use mathlib.Core.List.{List, [], ◌∷◌, ◌++◌, map, map-append}
use mathlib.Core.Option.{Option, none, some, none-ne-some}
use mathlib.Core.Bool.{Bool, true, false, cond}
use lib.Dec.{ltb}
use lib.ListN.{length, take, drop, get_or, length-append, length-map}
use lib.Seq.{take_at, drop_at}
use Rattle.pattern.specs.declared.Refusal.TheVariants.{TextTooLong, BrokenRecord}
use Rattle.pattern.proofs.SoundLaws.{both}
use Rattle.pattern_text.specs.Bytes.{Bytes}
use Rattle.record.specs.Record.{Piece, pieces_of, book_of, sample_at, total, record_sound}
use Rattle.record.proofs.RecordLaws.{piece-at, total-append}
use Rattle.record_text.specs.Piece.{RawPiece, values_in}
use Rattle.record_text.specs.Text.{read_record, durations_of, values_of, counts_fit, pieces_sound, pieces_refusal, record_refusal}
use Rattle.record_text.specs.Claims.{piece_of}
use Rattle.record_text.proofs.Theorems.{lines_are_pieces}
use Rattle.watch_steps.specs.Watch.{book_of_text, book_in}

-- a text that is not refused keeps the rules
no_cause : (a c : Bool) → cond a (some TextTooLong) (cond c none (some BrokenRecord)) ≡ none → c ≡ true
no_cause true c e = absurd (none-ne-some TextTooLong (sym e))
no_cause false true e = refl
no_cause false false e = absurd (none-ne-some BrokenRecord (sym e))

module _ (n : ℕ) (t : Bytes) (rs : List RawPiece) (reads : read_record t ≡ some rs) where
  pub book-is : book_of_text n t ≡ book_of n (durations_of rs) (values_of rs)
  book-is = ap (book_in n) reads

  module _ (fits : record_refusal n t ≡ none) where
    rules : pieces_sound n rs ≡ true
    unfolding record_refusal
    rules = no_cause (ltb 16_384 (length t)) (pieces_sound n rs) (ap (λ (o : Option (List RawPiece)). cond (ltb 16_384 (length t)) (some TextTooLong) (pieces_refusal n o)) (sym reads) ∙ fits)

    pub record_sound_lem : record_sound n (durations_of rs) (values_of rs) ≡ true
    unfolding pieces_sound
    record_sound_lem = (both (counts_fit n rs) (record_sound n (durations_of rs) (values_of rs)) rules).1

    counts : counts_fit n rs ≡ true
    unfolding pieces_sound
    counts = (both (counts_fit n rs) (record_sound n (durations_of rs) (values_of rs)) rules).0

    module _ (earlier : List RawPiece) (r : RawPiece) (later : List RawPiece) (is : rs ≡ earlier ++ (r ∷ later)) where
      abbrev i : ℕ
      i = length earlier

      pub inside : i < length (durations_of rs)
      unfolding durations_of
      inside =
          let a = length-map rs (λ q. q.duration) in
          let b = ap length is ∙ length-append earlier (r ∷ later) in
          omega arith

      here : drop i (pieces_of n (durations_of rs) (values_of rs)) ≡ piece_of r ∷ map piece_of later
      here =
          ap (drop i) (lines_are_pieces n rs counts ∙ ap (map piece_of) is ∙ map-append piece_of earlier (r ∷ later))
          ∙ drop_at (map piece_of earlier) (piece_of r ∷ map piece_of later) i (length-map earlier piece_of)

      -- the piece by its number
      same : record { duration = get_or (durations_of rs) i 0; sample = sample_at n (values_of rs) i } ∷ drop (suc i) (pieces_of n (durations_of rs) (values_of rs)) ≡ piece_of r ∷ map piece_of later
      same = sym (piece-at n i (durations_of rs) (values_of rs) inside) ∙ here

      first : List Piece → Piece
      first [] = record { duration = 0; sample = [] }
      first (x ∷ xs) = x

      pub duration-is : get_or (durations_of rs) i 0 ≡ r.duration
      unfolding first
      duration-is = ap (λ (l : List Piece). (first l).duration) same

      pub sample-is : sample_at n (values_of rs) i ≡ values_in r
      unfolding first
      sample-is = ap (λ (l : List Piece). (first l).sample) same

      pub start_is : total (take i (durations_of rs)) ≡ total (durations_of earlier)
      unfolding durations_of
      start_is =
          ap (λ (q : List RawPiece). total (take i (map (λ x. x.duration) q))) is
          ∙ ap (λ (q : List ℕ). total (take i q)) (map-append (λ x. x.duration) earlier (r ∷ later))
          ∙ ap total (take_at (map (λ x. x.duration) earlier) (map (λ x. x.duration) (r ∷ later)) i (length-map earlier (λ x. x.duration)))

-- the ticks of some pieces and one more
pub ticks-more : (earlier : List RawPiece) (r : RawPiece) → total (durations_of (earlier ++ (r ∷ []))) ≡ total (durations_of earlier) + r.duration
unfolding durations_of total
ticks-more earlier r =
    ap total (map-append (λ x. x.duration) earlier (r ∷ []))
    ∙ total-append (map (λ x. x.duration) earlier) (r.duration ∷ [])
    ∙ omega arith
