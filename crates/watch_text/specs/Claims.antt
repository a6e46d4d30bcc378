-- What is proved of the lines that `watch` prints when nothing is refused, in demand 3's words: of the runs of the record's book
-- whose length is in the window. The proof is in proofs/.
use Rattle.std.specs.Prelude.{ℕ, ◌-◌, ◌≤◌, ◌<◌, ◌≡◌, true, T, ℤ}
use mathlib.Core.List.{List, [], ◌∷◌, ◌++◌, Memᴰ}
use Rattle.std.proofs.Math.Option.{Option, none, some}
use Rattle.weighting.proofs.Weightings.{weighting_of}
use Rattle.pattern.specs.declared.Pattern.{Pattern}
use Rattle.pattern.specs.Sound.{sound_of}
use Rattle.pattern_text.specs.Bytes.{Bytes, bytes}
use Rattle.record.specs.Record.{Book}
use Rattle.best.specs.Claims.{RunFrom, BestRunIs}
use Rattle.watch_text.specs.Shown.{feed, heading, row_text, shown_for}

-- "fields as headed": a line's end, begin and score.
pub record Row : Type 0 where
  pub end : ℕ
  pub begin : ℕ
  pub score : ℤ

abbrev pub row_line : Row → Bytes
row_line r = row_text r.end r.begin r.score

-- A line for each row.
unfoldable pub row_lines : List Row → Bytes
row_lines [] = []
row_lines (r ∷ rs) = row_line r ++ row_lines rs

-- "best 2 0 5", or `best none`.
unfoldable pub last_line : Option Row → Bytes
last_line none = bytes "best none" ++ feed
last_line (some r) = bytes "best " ++ row_line r

-- The ends rise from row to row, so that none has two.
unfoldable pub Rising : List Row → Type 0
Rising [] = Unit
Rising (r ∷ rs) = ((s : Row) → Memᴰ s rs → r.end < s.end) × Rising rs

module _ (p : Pattern) (b : Book) where
  -- "the best score among the runs with that end whose length is at least the window's low and at most its high, and the
  -- least length among those with that score": there is this run; none with its end is better; none as good is shorter.
  pub record RowRight (r : Row) : Type 0 where
    pub attained : RunFrom p b r.begin r.end r.score
    pub none_better : (a : ℕ) (w : ℤ) → RunFrom p b a r.end w → T ((weighting_of p.weighing).order.at_least r.score w)
    pub none_shorter : (a : ℕ) → RunFrom p b a r.end r.score → r.end - r.begin ≤ r.end - a

  -- A row for each end with a run, in the order of ends: every row is right, and the end of every run has one. So "ends
  -- without a run have no line", and an end without a line has no run.
  pub record RowsRight (rs : List Row) : Type 0 where
    pub rising : Rising rs
    pub right : (r : Row) → Memᴰ r rs → RowRight r
    pub every_end : (begin end : ℕ) (w : ℤ) → RunFrom p b begin end w → (r : Row) × Memᴰ r rs × (r.end ≡ end)

  -- The best of the record: "among equals the earliest end, then the shortest". "With none at all the last line is `best
  -- none`": there is no run then, and where another line is last there is one.
  abbrev pub LastRight : Option Row → Type 0
  LastRight none = (begin end : ℕ) (w : ℤ) → ¬ RunFrom p b begin end w
  LastRight (some r) = BestRunIs p b r.end r.begin r.score

  -- The heading, then the lines of the ends, then the last line, and nothing else.
  pub record Shows (shown : Bytes) : Type 0 where
    pub rows : List Row
    pub last : Option Row
    pub is : shown ≡ heading ++ (row_lines rows ++ last_line last)
    pub rows_right : RowsRight rows
    pub last_right : LastRight last

-- Theorem: what is shown for a sound pattern and any book is right, line by line.
abbrev pub ShownRight : Type 0
ShownRight = (p : Pattern) → sound_of p ≡ true → (b : Book) → Shows p b (shown_for p b)
