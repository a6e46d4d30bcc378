-- What it is to put bytes into a buffer at a position.
use Rattle.std.specs.Prelude.{ℕ, ◌+◌, ◌-◌, ◌≡◌, List, ◌++◌, length, take, drop}
use Rattle.std.specs.Borrow.{MutBor}
use Rattle.pattern_text.specs.Bytes.{Bytes}
use Rattle.text_put.specs.declared.Writer.{Writer}

-- What of xs fits into the buffer from the position `at` on; the rest is left out. Past the buffer's end nothing fits.
unfoldable pub fitting : (before : Bytes) (at : ℕ) (xs : Bytes) → Bytes
fitting before at xs = take (length before - at) xs

-- The whole buffer with xs at the position `at`: around them stands what stood there before.
unfoldable pub put_at : (before : Bytes) (at : ℕ) (xs : Bytes) → Bytes
put_at before at xs = take at before ++ (fitting before at xs ++ drop (at + length xs) before)

-- The bytes xs were put at the position `at`, and `next` is the position after those that fit.
pub record Put (before after : Bytes) (at next : ℕ) (xs : Bytes) : Type 0 where
  pub buffer : after ≡ put_at before at xs
  pub position : next ≡ at + length (fitting before at xs)

-- A writer stands at the front of the buffer that it is lent.
pub record Begins (lent : MutBor (List ℕ)) (w : Writer) : Type 0 where
  pub same : w.text.ghost_name ≡ lent.ghost_name
  pub text : w.text.now ≡ lent.now
  pub front : w.at ≡ 0

-- The writer put the bytes xs, and the buffer is the one that it was lent.
pub record Puts (before after : Writer) (xs : Bytes) : Type 0 where
  pub same : after.text.ghost_name ≡ before.text.ghost_name
  pub put : Put before.text.now after.text.now before.at after.at xs
