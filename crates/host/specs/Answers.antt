-- What pricing and the best of a record hand back to a host in C, and what the best leaves of the tables that it lent: by the
-- answer to the pattern's text, what the library's definitions say of the pattern that was read. A refused text gives the
-- reader's number and alters nothing.
use Rattle.std.specs.Prelude.{ℕ, List, ℤ, Err}
use Rattle.pattern_text.specs.Text.{Answer, accepted, refused}
use Rattle.price.specs.Price.{priced_of}
use Rattle.best.specs.Best.{best_of, best_first, best_second}
use Rattle.host_told.specs.declared.RunPrice.{RunPrice}
use Rattle.host_told.specs.declared.RecordBest.{RecordBest}
use Rattle.host_told.specs.Told.{price_told, best_told}

-- ---- pricing

abbrev pub run_price : Answer → (durations : List ℕ) → (values : List ℤ) → (begin : ℕ) → (edges stays : List ℕ) → RunPrice
run_price (refused r) ds vs begin es ss = price_told (Err r)
run_price (accepted p) ds vs begin es ss = price_told (priced_of p ds vs begin es ss)

-- ---- the best of a record

abbrev pub record_best : Answer → (durations : List ℕ) → (values : List ℤ) → (first second : List ℤ) → RecordBest
record_best (refused r) ds vs t u = best_told (Err r)
record_best (accepted p) ds vs t u = best_told (best_of p ds vs t u)

abbrev pub record_first : Answer → (durations : List ℕ) → (values : List ℤ) → (first second : List ℤ) → List ℤ
record_first (refused r) ds vs t u = t
record_first (accepted p) ds vs t u = best_first p ds vs t u

abbrev pub record_second : Answer → (durations : List ℕ) → (values : List ℤ) → (first second : List ℤ) → List ℤ
record_second (refused r) ds vs t u = u
record_second (accepted p) ds vs t u = best_second p ds vs t u
