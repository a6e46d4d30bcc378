-- A record, its rules, and the book of ticks that it lays out (document 01, 'Record and run'; source 000, definition 2:
-- a signal is a sequence of values, each with its duration; here every duration is a whole number of ticks).
use Rattle.std.specs.Prelude.{ℕ, ◌+◌, ◌*◌, List, [], ◌∷◌, ◌++◌, Bool, ◌&&◌, eqb, leb, length, take, drop, replicate, ℤ, nat_abs}
use Rattle.pattern.specs.Slots.{all}
use Rattle.pattern.specs.Distance.{Sample}

-- "a duration of at least 1 tick and one value per channel"
pub record Piece : Type 0 where
  pub duration : ℕ
  pub sample : Sample

-- A book has a sample for each tick: "Tick t runs from time t to t + 1."
abbrev pub Book : Type 0
Book = List Sample

-- The book that pieces lay out: each piece's sample once for each tick of its duration.
unfoldable pub ticks_of : List Piece → Book
ticks_of [] = []
ticks_of (x ∷ xs) = replicate x.duration x.sample ++ ticks_of xs

-- A record is lent as two slices: the durations, and the values piece by piece, channel by channel.
unfoldable pub pieces_of : (channels : ℕ) → (durations : List ℕ) → (values : List ℤ) → List Piece
pieces_of n [] vs = []
pieces_of n (d ∷ ds) vs = record { duration = d; sample = take n vs } ∷ pieces_of n ds (drop n vs)

-- The sample of a piece, by its number: its "one value per channel" (for the code; the book takes the values piece by piece).
unfoldable pub sample_at : (channels : ℕ) → (values : List ℤ) → (piece : ℕ) → Sample
sample_at n vs i = take n (drop (i * n) vs)

-- The book of a lent record: "Tick t runs from time t to t + 1", from the first piece's first tick on.
unfoldable pub book_of : (channels : ℕ) → (durations : List ℕ) → (values : List ℤ) → Book
book_of n ds vs = ticks_of (pieces_of n ds vs)

-- "The durations total": the record's ticks.
unfoldable pub total : List ℕ → ℕ
total [] = 0
total (n ∷ ns) = n + total ns

-- "one value per channel, -1,000,000 to 1,000,000"
abbrev pub value_in_range : ℤ → Bool
value_in_range v = leb (nat_abs v) 1_000_000

-- "A record is up to 4,096 pieces: a duration of at least 1 tick and one value per channel .. The durations total at most
-- 2,147,483,647." The slices agree if there are pieces × channels values.
unfoldable pub record_sound : (channels : ℕ) → (durations : List ℕ) → (values : List ℤ) → Bool
record_sound n ds vs =
    leb (length ds) 4_096 && all (leb 1) ds && leb (total ds) 2_147_483_647 && all value_in_range vs
    && eqb (length vs) (length ds * n)
