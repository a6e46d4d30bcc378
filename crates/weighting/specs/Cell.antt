-- How a worth stands in a cell: "A cell holds the best worth .., or the mark -9,223,372,036,854,775,808."
use Rattle.std.specs.Prelude.{cond, ℤ, negsuc}
use Rattle.std.proofs.Math.Option.{Option, none, some}
use Rattle.integers.specs.Equal.{eq_z}

-- `negsuc n` is -(n + 1).
abbrev pub mark : ℤ
mark = negsuc 9_223_372_036_854_775_807

abbrev pub cell_of : Option ℤ → ℤ
cell_of none = mark
cell_of (some a) = a

unfoldable pub held_in : ℤ → Option ℤ
held_in z = cond (eq_z z mark) none (some z)
