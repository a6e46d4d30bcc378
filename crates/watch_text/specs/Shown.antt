-- What `watch` prints (document 01, 'The watch program'), line by line.
use Rattle.std.specs.Prelude.{ℕ, zero, suc, ◌+◌, ◌-◌, List, [], ◌∷◌, ◌++◌, cond, eqb, length, get_or, ℤ, pos}
use Rattle.std.proofs.Math.Option.{Option, none, some}
use Rattle.pattern.specs.declared.Pattern.{Pattern}
use Rattle.pattern.specs.declared.Refusal.{Refusal}
use Rattle.pattern.specs.Refusal.{number_of}
use Rattle.pattern_text.specs.Bytes.{Bytes, bytes}
use Rattle.pattern_text.specs.Numeral.{decimal}
use Rattle.pattern_text.specs.Form.{write_ℤ}
use Rattle.record.specs.Record.{Book}
use Rattle.best.specs.Best.{Chosen, score_at, length_at, chosen_of}

abbrev pub feed : Bytes
feed = 10 ∷ []

-- "A refusal prints one line and no other, as `refused 11`".
unfoldable pub refused_text : Refusal → Bytes
refused_text r = bytes "refused " ++ (decimal (number_of r) ++ feed)

-- The heading is printed even if no line follows.
unfoldable pub heading : Bytes
heading = bytes "end begin score" ++ feed

-- "2 0 5": end, begin, score.
unfoldable pub row_text : (end begin : ℕ) → (score : ℤ) → Bytes
row_text end begin score = (decimal end ++ bytes " ") ++ ((decimal begin ++ bytes " ") ++ (write_ℤ score ++ feed))

-- The line of an end by its report; "ends without a run have no line": length 0 says that there is none.
unfoldable pub row_for : (end : ℕ) → (score : ℤ) → (len : ℕ) → Bytes
row_for end score len = cond (eqb len 0) [] (row_text end (end - len) score)

-- The lines of m ends, from the one after n on.
unfoldable pub rows_from : Pattern → Book → (n m : ℕ) → Bytes
rows_from p b n zero = []
rows_from p b n (suc m) = row_for (suc n) (score_at p b (suc n)) (length_at p b (suc n)) ++ rows_from p b (suc n) m

-- "best 2 0 5"; "with none at all the last line is `best none`".
unfoldable pub best_text : Option Chosen → Bytes
best_text none = bytes "best none" ++ feed
best_text (some f) = bytes "best " ++ row_text f.end (f.end - f.len) f.score

-- What a pattern and a book are answered with, when nothing is refused.
unfoldable pub shown_for : Pattern → Book → Bytes
shown_for p b = heading ++ (rows_from p b 0 (length b) ++ best_text (chosen_of p b))

-- ---- a layer below: the lines of the first i reports after n ticks

unfoldable pub rows_past : (n : ℕ) → (scores : List ℤ) → (lengths : List ℕ) → (i : ℕ) → Bytes
rows_past n ss ls zero = []
rows_past n ss ls (suc i) = rows_past n ss ls i ++ row_for (n + i + 1) (get_or ss i (pos 0)) (get_or ls i 0)
