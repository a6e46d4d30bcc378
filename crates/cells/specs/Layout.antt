-- How a table is laid out (document 01, 'Monitor tables').
use Rattle.std.specs.Prelude.{ℕ, ◌*◌, ◌≤◌, ◌≡◌, true, [], ◌∷◌}
use Rattle.pattern.specs.declared.Pattern.{Pattern}
use Rattle.pattern.specs.Sound.{sound_of}
use Rattle.pattern.specs.Cells.{radix_of, radix_product, cells_for}
use Rattle.cells.specs.declared.Layout.{Layout}
pub use Rattle.cells.specs.Laid.{cells_in, Laid}

-- The layout of a pattern's table for runs of up to `longest` ticks. A block holds the cells of one length, stage and
-- place; a row holds the cells of one length.
unfoldable pub layout_of : Pattern → (longest : ℕ) → Layout
layout_of p longest =
    record {
      high = longest;
      places = p.placecount;
      radices = radix_of p 0 ∷ radix_of p 1 ∷ radix_of p 2 ∷ radix_of p 3 ∷ [];
      block = radix_product p 4;
      row = 2 * p.placecount * radix_product p 4;
    }

-- Theorem: the layout of a sound pattern fits together, for lengths of up to 65,535.
abbrev pub LayoutLaid : Type 0
LayoutLaid = (p : Pattern) (longest : ℕ) → sound_of p ≡ true → longest ≤ 65535 → Laid (layout_of p longest)

-- Theorem: its cells are the cells needed.
abbrev pub LayoutCells : Type 0
LayoutCells = (p : Pattern) (longest : ℕ) → sound_of p ≡ true → cells_in (layout_of p longest) ≡ cells_for longest p
