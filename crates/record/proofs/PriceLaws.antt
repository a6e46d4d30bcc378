-- What a price has: it is that of a run inside the book.
use Prim.Native.Nat.{ℕ, ◌+◌, ◌≤◌}
use mathlib.Core.Path.{◌≡◌, refl}
use mathlib.Core.List.{List}
use mathlib.Core.Option.{some, none, some-injective, none-ne-some}
use mathlib.Core.Bool.{Bool, true, false, cond, ◌&&◌}
use borrow.Author.Tests.{leb-true}
use lib.Dec.{leb}
use lib.ListN.{length}
use lib.IntN.{ℤ}
use Rattle.pattern.specs.declared.Pattern.{Pattern}
use Rattle.pattern.proofs.SoundLaws.{both}
use Rattle.record.specs.Record.{Book}
use Rattle.record.specs.Run.{Step, is_run, length_of}
use Rattle.record.specs.Worth.{run_worth, price_of}

pub priced_parts : (p : Pattern) (b : Book) (begin : ℕ) (xs : List Step) (w : ℤ) → price_of p b begin xs ≡ some w
    → (is_run p xs ≡ true) × (begin + length_of xs ≤ length b) × (run_worth p b begin xs ≡ w)
unfolding price_of
priced_parts p b begin xs w e = by (is_run p xs && leb (begin + length_of xs) (length b)) refl e
  where
    by : (t : Bool) → is_run p xs && leb (begin + length_of xs) (length b) ≡ t → cond t (some (run_worth p b begin xs)) none ≡ some w
        → (is_run p xs ≡ true) × (begin + length_of xs ≤ length b) × (run_worth p b begin xs ≡ w)
    by true h e = let a = both (is_run p xs) _ h in (a.0, leb-true _ _ a.1, some-injective _ w e)
    by false h e = absurd (none-ne-some w e)
