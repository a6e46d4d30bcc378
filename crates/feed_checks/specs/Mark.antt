-- When a cell holds no worth.
use Rattle.std.specs.Prelude.{Bool, ℤ}
use Rattle.integers.specs.Equal.{eq_z}
use Rattle.weighting.specs.Cell.{mark}

abbrev pub is_mark : ℤ → Bool
is_mark z = eq_z z mark
