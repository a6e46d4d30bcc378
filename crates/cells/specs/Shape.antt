-- What a layout is in definitions, of any pattern: the greatest length, the places, a radix for each of four clocks; the cells of a
-- block (one length, stage and place) and of a row (one length). The code's are `Laid`, too.
use Rattle.std.specs.Prelude.{ℕ, List}

pub record Shape : Type 0 where
  pub high : ℕ
  pub places : ℕ
  pub radices : List ℕ
  pub block : ℕ
  pub row : ℕ
