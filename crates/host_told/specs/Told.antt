-- The library's answers as a host in C is told them: the refusal's number, 0 without one, and the values beside it.
use Rattle.std.specs.Prelude.{ℕ, ℤ, pos, Option, Some, None, Result, Ok, Err}
use Rattle.pattern.specs.declared.Refusal.{Refusal}
use Rattle.pattern.specs.Refusal.{number_of}
use Rattle.best.specs.declared.Run.{Run}
use Rattle.host_told.specs.declared.RunPrice.{RunPrice}
use Rattle.host_told.specs.declared.RecordBest.{RecordBest}

abbrev pub counted_cells : Result ℕ Refusal → ℕ
counted_cells (Ok n) = n
counted_cells (Err r) = 0

-- the refusal's number, and the score, 0 beside a refusal
abbrev pub price_told : Result ℤ Refusal → RunPrice
price_told (Ok w) = record { refusal = 0; score = w }
price_told (Err r) = record { refusal = number_of r; score = pos 0 }

-- `found` is 1 beside a run; without one, and beside a refusal, all else is zeros
abbrev pub best_told : Result (Option Run) Refusal → RecordBest
best_told (Ok (Some r)) = record { refusal = 0; found = 1; end = r.end; begin = r.begin; score = r.score }
best_told (Ok None) = record { refusal = 0; found = 0; end = 0; begin = 0; score = pos 0 }
best_told (Err r) = record { refusal = number_of r; found = 0; end = 0; begin = 0; score = pos 0 }
