-- How the code goes through a record, piece by piece. No promise of a public operation speaks of this.
use Rattle.std.specs.Prelude.{ℕ, ◌+◌, ◌*◌, ◌-◌, ◌^◌, ◌≤◌, ◌<◌, ◌≡◌, List, map, Bool, true, false, cond, ltb, length, take, drop, get_or, ℤ, nat_abs}
use Rattle.std.proofs.Math.Option.{Option, none, some}
use Rattle.std.specs.Int.{w64}
use Rattle.std.proofs.Common.{SFits}
use Rattle.weighting.specs.declared.Weighing.{Weighing}
use Rattle.weighting.specs.Weighting.{combine_from}
use Rattle.weighting.proofs.Weightings.{weighting_of}
use Rattle.pattern.specs.declared.Place.{Place}
use Rattle.pattern.specs.Slots.{all}
use Rattle.pattern.specs.Distance.{Sample, place_worth}
use Rattle.price_stays.specs.declared.Walk.{Walk}
use Rattle.record.specs.Record.{Book, ticks_of, pieces_of, sample_at, value_in_range, record_sound}
use Rattle.record.specs.Joined.{agrees, joined, fresh_after}

-- ---- where it stands

-- The ticks that lie ahead, from a piece on of which some ticks are used.
unfoldable pub ahead : (channels : ℕ) → (durations : List ℕ) → (values : List ℤ) → (piece used : ℕ) → Book
ahead n ds vs i u = drop u (ticks_of (drop i (pieces_of n ds vs)))

-- In a piece that has a tick left, or past the last piece.
pub record Stands (durations : List ℕ) (piece used : ℕ) : Type 0 where
  pub inside : piece ≤ length durations
  pub below : used < get_or durations piece 1

-- ---- what it observes, from left to right

-- What ticks bring that is new in a place after a tick of the stay, if there was one.
unfoldable pub new_to : Place → Option Sample → Book → List Sample
new_to l none b = joined (agrees l) b
new_to l (some last) b = fresh_after (agrees l) last b

-- Does x belong to the observation of the tick before it?
unfoldable pub joins_to : Place → Option Sample → Sample → Bool
joins_to l none x = false
joins_to l (some last) x = agrees l last x

-- The values before a piece, in a stay that began in the piece `first`.
unfoldable pub seen_at : (channels : ℕ) → (values : List ℤ) → (first piece : ℕ) → Option Sample
seen_at n vs first i = cond (ltb first i) (some (sample_at n vs (i - 1))) none

-- The worth once a piece is observed too: as it was where the piece belongs to the observation before it.
abbrev pub with_piece : Weighing → Place → (channels : ℕ) → (values : List ℤ) → (first piece : ℕ) → (worth : ℤ) → ℤ
with_piece w l n vs first i a =
    cond (joins_to l (seen_at n vs first i) (sample_at n vs i)) a ((weighting_of w).combine a (place_worth w l (sample_at n vs i)))

-- ---- what functions ask and promise

-- A piece can be observed.
pub record Observes (w : Weighing) (l : Place) (channels : ℕ) (values : List ℤ) (piece : ℕ) (worth : ℤ) : Type 0 where
  pub part : piece * channels + channels ≤ length values
  pub fits : SFits w64 ((weighting_of w).combine worth (place_worth w l (sample_at channels values piece)))

-- A stay stands in a record that has the ticks it wants. Each tick brings at most one observation, so the worth of what
-- is to come is at most 8,000,000 a tick.
pub record Walks (w : Weighing) (l : Place) (channels : ℕ) (durations : List ℕ) (values : List ℤ) (first : ℕ) (s : Walk) : Type 0 where
  pub sound : record_sound channels durations values ≡ true
  pub mild : (x : Sample) → all value_in_range x ≡ true → nat_abs (place_worth w l x) ≤ 8_000_000
  pub stands : Stands durations s.piece s.used
  pub onward : first ≤ s.piece
  pub enough : s.left ≤ length (ahead channels durations values s.piece s.used)
  pub size : nat_abs s.worth + 8_000_000 * s.left ≤ 2 ^ 60

-- What the stay will be worth at its end.
unfoldable pub to_come : Weighing → Place → (channels : ℕ) → (durations : List ℕ) → (values : List ℤ) → (first : ℕ) → Walk → ℤ
to_come w l n ds vs first s =
    combine_from (weighting_of w) s.worth
    (map (place_worth w l) (new_to l (seen_at n vs first s.piece) (take s.left (ahead n ds vs s.piece s.used))))

-- From s to r: less of the stay is left, and its worth at its end is the same.
pub record Turned (w : Weighing) (l : Place) (channels : ℕ) (durations : List ℕ) (values : List ℤ) (first : ℕ) (s r : Walk) : Type 0 where
  pub stands : Stands durations r.piece r.used
  pub onward : first ≤ r.piece
  pub less : r.left < s.left
  pub rest :
      drop r.left (ahead channels durations values r.piece r.used)
      ≡ drop s.left (ahead channels durations values s.piece s.used)
  pub enough : r.left ≤ length (ahead channels durations values r.piece r.used)
  pub worth : to_come w l channels durations values first r ≡ to_come w l channels durations values first s
  pub size : nat_abs r.worth + 8_000_000 * r.left ≤ nat_abs s.worth + 8_000_000 * s.left

-- From s to r: the whole stay.
pub record Stayed (w : Weighing) (l : Place) (channels : ℕ) (durations : List ℕ) (values : List ℤ) (s r : Walk) : Type 0 where
  pub stands : Stands durations r.piece r.used
  pub rest :
      ahead channels durations values r.piece r.used ≡ drop s.left (ahead channels durations values s.piece s.used)
  pub worth :
      r.worth
      ≡ combine_from (weighting_of w) s.worth
      (map (place_worth w l) (joined (agrees l) (take s.left (ahead channels durations values s.piece s.used))))
  pub size : nat_abs r.worth ≤ nat_abs s.worth + 8_000_000 * s.left
