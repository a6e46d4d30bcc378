-- What is claimed of pricing and the best of a record for a host in C; the proofs are in proofs/.
use Rattle.std.specs.Prelude.{ℕ, ◌≤◌, ◌≡◌, List, not, cond, length, ℤ}
use Rattle.pattern.specs.declared.Pattern.{Pattern}
use Rattle.pattern_text.specs.Bytes.{Bytes}
use Rattle.pattern_text.specs.Text.{Answer, accepted, read_of}
use Rattle.record.specs.Record.{record_sound, book_of}
use Rattle.record.specs.Run.{steps_of}
use Rattle.record.specs.Worth.{price_of}
use Rattle.price.specs.Price.{steps_fit, scored_as}
use Rattle.monitor.specs.Open.{table_too_short}
use Rattle.host.specs.Answers.{run_price, record_best, record_first, record_second}

-- ---- the numbers for an accepted text. A pattern that was read is sound, so 7 is never among them; the causes are tried in
-- the order written.

-- Pricing: 8, 9, 10.
abbrev pub PriceNumbers : Type 0
PriceNumbers =
    (x : Bytes) (p : Pattern) → read_of x ≡ accepted p → (ds : List ℕ) (vs : List ℤ) (begin : ℕ) (es ss : List ℕ)
    → (run_price (read_of x) ds vs begin es ss).refusal
    ≡ cond (record_sound p.channels ds vs)
    (cond (steps_fit ds begin es ss) (scored_as (price_of p (book_of p.channels ds vs) begin (steps_of es ss))).0 9)
    8

-- The best of a record: 8, 11.
abbrev pub RecordNumbers : Type 0
RecordNumbers =
    (x : Bytes) (p : Pattern) → read_of x ≡ accepted p → (ds : List ℕ) (vs t u : List ℤ)
    → (record_best (read_of x) ds vs t u).refusal
    ≡ cond (not (record_sound p.channels ds vs)) 8 (cond (table_too_short p (length t) (length u)) 11 0)

-- ---- "A refusal .. alters no lent memory."

abbrev pub BestRefusedAltersNothing : Type 0
BestRefusedAltersNothing =
    (a : Answer) (ds : List ℕ) (vs t u : List ℤ) → 1 ≤ (record_best a ds vs t u).refusal
    → (record_first a ds vs t u ≡ t) × (record_second a ds vs t u ≡ u)
