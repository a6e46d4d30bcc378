-- The ticks of a piece, as the book that the piece was added to has them.
use Prim.Native.Nat.{ℕ, zero, suc, ◌+◌, ◌-◌, ◌≤◌, ◌<◌}
use native.Mathlib.Omega.{arith}
use mathlib.Core.Path.{◌≡◌, refl, sym, subst, ◌∙◌}
use mathlib.Core.List.{[], ◌++◌}
use mathlib.Core.Bool.{Bool}
use lib.ListN.{length, replicate, get_or-replicate, get_or-append}
use lib.Seq.{get_or-append-add}
use Rattle.pattern.specs.declared.Pattern.{Pattern}
use Rattle.pattern.specs.Distance.{Sample}
use Rattle.record.specs.Record.{Book}
use Rattle.book.specs.View.{sample_at, before, view_of}
use Rattle.monitor.specs.Feed.{piece_view}

-- a book's ticks are the same once more is added to it
module _ (p : Pattern) (b more : Book) where
  pub sample-front : (t : ℕ) → t < length b → sample_at (b ++ more) t ≡ sample_at b t
  sample-front t h = get_or-append b more [] t h

  pub before-front : (t : ℕ) → t ≤ length b → before p (b ++ more) t ≡ before p b t
  unfolding before
  before-front zero h = refl
  before-front (suc t) h = sample-front t h

  pub view_front : (t : ℕ) (f : Bool) (k : ℕ) → t < length b → view_of p (b ++ more) t f k ≡ view_of p b t f k
  view_front t f k h = rw (sample-front t h, before-front t (omega arith))

module _ (p : Pattern) (b : Book) (d : ℕ) (vs : Sample) where
  -- the book with the piece
  abbrev pub longer : Book
  longer = b ++ replicate d vs

  -- ticks of the piece
  pub sample-new : (j : ℕ) → j < d → sample_at longer (length b + j) ≡ vs
  sample-new j h = get_or-append-add b (replicate d vs) j [] ∙ get_or-replicate d j vs [] h

  -- the tick after one of the piece finds its values
  before-new : (j : ℕ) → j < d → before p longer (length b + suc j) ≡ vs
  unfolding before
  before-new j h = let e : length b + suc j ≡ suc (length b + j) = omega arith in rw e (sample-new j h)

  pub before-end : 1 ≤ d → before p longer (length b + d) ≡ vs
  before-end h = let e : d ≡ suc (d - 1) = omega arith in subst (λ (n : ℕ). before p longer (length b + n) ≡ vs) (sym e) (before-new (d - 1) (omega arith))

  pub view_new : (j : ℕ) (f : Bool) (k : ℕ) → j < d → view_of p longer (length b + j) f k ≡ piece_view p (before p b (length b)) vs j f k
  unfolding piece_view
  view_new zero f k h =
      let z : length b + 0 ≡ length b = omega arith in
      rw (sample-new 0 h, z, before-front p b (replicate d vs) (length b) (omega arith))
  view_new (suc j) f k h =
      rw (sample-new (suc j) h, before-new j (omega arith))
