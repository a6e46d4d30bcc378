-- The numbers that a host program gets (document 01, 'Monitor tables'): "A host program written in C calls the pattern
-- check and the cell count with a byte slice and gets plain numbers: 0 or the refusal from the check, the cells or 0 for a
-- refused text from the count."
use Rattle.std.specs.Prelude.{ℕ, ◌≤◌, ◌≡◌, ◌↔◌}
use Rattle.pattern.specs.Refusal.{number_of}
use Rattle.pattern.specs.Cells.{cells_needed}
use Rattle.pattern_text.specs.Bytes.{Bytes}
use Rattle.pattern_text.specs.Text.{Answer, accepted, refused, read_of}

-- "0 or the refusal from the check"
abbrev pub check_of : Answer → ℕ
check_of (accepted p) = 0
check_of (refused r) = number_of r

-- "the cells or 0 for a refused text from the count"
abbrev pub count_of : Answer → ℕ
count_of (accepted p) = cells_needed p
count_of (refused r) = 0

-- Theorem: the check gives 0 or a refusal from 1 to 5, and the count is 0 exactly for a refused text.
abbrev pub NumbersTell : Type 0
NumbersTell = (t : Bytes) → (check_of (read_of t) ≤ 5) × ((count_of (read_of t) ≡ 0) ↔ (1 ≤ check_of (read_of t)))
