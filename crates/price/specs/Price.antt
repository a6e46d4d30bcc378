-- The operation 'Price a run' (document 01, 'Operations and refusals'): 7, 8, 9, 10 in this order, else the score.
use Rattle.std.specs.Prelude.{ℕ, ◌*◌, ◌^◌, ◌≤◌, ◌<◌, ◌≡◌, List, Bool, cond, ◌&&◌, eqb, leb, ltb, length, ℤ, pos, nat_abs, Result, Ok, Err}
use Rattle.std.proofs.Math.Option.{Option, none, some}
use Rattle.weighting.specs.declared.Weighing.{Weighing}
use Rattle.weighting.specs.declared.Weighing.TheVariants.{Margin, Sum}
use Rattle.pattern.specs.declared.Pattern.{Pattern}
use Rattle.pattern.specs.declared.Refusal.{Refusal}
use Rattle.pattern.specs.declared.Refusal.TheVariants.{UnsoundPattern, BrokenRecord, BrokenSteps, NotARun}
use Rattle.pattern.specs.Sound.{sound_of}
use Rattle.pattern.specs.Refusal.{number_of}
use Rattle.record.specs.Record.{total, record_sound, book_of}
use Rattle.record.specs.Run.{length_of, steps_of}
use Rattle.record.specs.Worth.{price_of}

-- "9: edge list and stay list differ in length, are empty or over 4,095, or begin is not inside the record."
unfoldable pub steps_fit : (durations : List ℕ) → (begin : ℕ) → (edges stays : List ℕ) → Bool
steps_fit ds begin es ss =
    eqb (length es) (length ss) && leb 1 (length es) && leb (length es) 4_095 && ltb begin (total ds)

-- "10: they are not a run, or pass the record's end."
abbrev pub scored : Option ℤ → Result ℤ Refusal
scored (some w) = Ok w
scored none = Err NotARun

unfoldable pub priced_of : Pattern → (durations : List ℕ) → (values : List ℤ) → (begin : ℕ) → (edges stays : List ℕ) → Result ℤ Refusal
priced_of p ds vs begin es ss =
    cond (sound_of p)
    (cond (record_sound p.channels ds vs)
    (cond (steps_fit ds begin es ss)
    (scored (price_of p (book_of p.channels ds vs) begin (steps_of es ss)))
    (Err BrokenSteps))
    (Err BrokenRecord))
    (Err UnsoundPattern)

-- What an answer says: the refusal's number (0 if there is none), and the score, zero beside a refusal.
abbrev pub priced_as : Result ℤ Refusal → ℕ × ℤ
priced_as (Ok w) = (0, w)
priced_as (Err r) = (number_of r, pos 0)

abbrev pub scored_as : Option ℤ → ℕ × ℤ
scored_as (some w) = (0, w)
scored_as none = (10, pos 0)

-- What is due, in document 01's numbers.
abbrev pub priced_numbers : Pattern → (durations : List ℕ) → (values : List ℤ) → (begin : ℕ) → (edges stays : List ℕ) → ℕ × ℤ
priced_numbers p ds vs begin es ss =
    cond (sound_of p)
    (cond (record_sound p.channels ds vs)
    (cond (steps_fit ds begin es ss) (scored_as (price_of p (book_of p.channels ds vs) begin (steps_of es ss))) (9, pos 0))
    (8, pos 0))
    (7, pos 0)

-- Theorem: the two agree.
abbrev pub PricedNumbers : Type 0
PricedNumbers =
    (p : Pattern) (ds : List ℕ) (vs : List ℤ) (begin : ℕ) (es ss : List ℕ)
    → priced_as (priced_of p ds vs begin es ss) ≡ priced_numbers p ds vs begin es ss

-- How large a run of so many ticks can be: in margin no more than one distance, or 2,000,001 without tests; in sum each tick
-- brings at most one observation, of at most four distances of 2,000,000.
abbrev pub largest_score : Weighing → (ticks : ℕ) → ℕ
largest_score Margin n = 2_000_001
largest_score Sum n = 8_000_000 * n

-- Theorem: "tables are signed 64-bit", and no score leaves them: one that is answered is no larger than this, and so far below
-- 2^63, as a record has at most 2,147,483,647 ticks.
abbrev pub ScoresInRange : Type 0
ScoresInRange =
    (p : Pattern) (ds : List ℕ) (vs : List ℤ) (begin : ℕ) (es ss : List ℕ) (w : ℤ)
    → priced_of p ds vs begin es ss ≡ Ok w
    → (nat_abs w ≤ largest_score p.weighing (length_of (steps_of es ss))) × (nat_abs w < 2 ^ 54)
