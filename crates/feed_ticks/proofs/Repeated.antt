-- A part of a list that is filled with the same; and reports made one by one, of which the later ones are all alike.
use Prim.Native.Nat.{ℕ, zero, suc, ◌+◌, ◌-◌, ◌≤◌, ◌<◌}
use native.Mathlib.Omega.{arith}
use mathlib.Core.Path.{◌≡◌, sym, ap, ◌∙◌}
use mathlib.Core.List.{List, ◌++◌, map}
use native.Mathlib.Numerals.{add-one}
use lib.ListN.{length, drop, set, replicate}
use lib.Seq.{paste}
use Rattle.std.proofs.lemmas.List.Edits.{paste_none, fill_from_more}
use Rattle.monitor.specs.Cells.{up_to}
use Rattle.feed_ticks.specs.Ticks.{repeated}
use Rattle.feed_ticks.proofs.Told.{made_more}

pub repeated-paste : {A : Type 0} (l : List A) (from n : ℕ) (a : A) → from + n ≤ length l → paste l from (replicate n a) n ≡ repeated l from n a
unfolding repeated
repeated-paste l from zero a h = sym (paste_none l from (replicate 0 a))
repeated-paste {A} l from (suc n) a h =
    ap (λ (m : ℕ). paste l from (replicate m a) m) (sym (add-one n))
    ∙ sym (fill_from_more l from n a (omega arith))
    ∙ ap (λ (u : List A). set u (from + n) a) (repeated-paste l from n a (omega arith))

-- one place more that holds the same
pub repeated-more : {A : Type 0} (l : List A) (from i : ℕ) (a : A) → from ≤ i → set (repeated l from (i - from) a) i a ≡ repeated l from (i + 1 - from) a
unfolding repeated
repeated-more l from i a h =
    let e : i + 1 - from ≡ suc (i - from) = omega arith in
    let f : from + (i - from) ≡ i = omega arith in
    rw (e, f)

module _ {A : Type 0} (f : ℕ → A) (l : List A) (m : ℕ) (a d : A) where
  -- the first m are made, and each later one is a
  pub made_alike : (n : ℕ) → m + n ≤ length l → ((i : ℕ) → i < n → f (m + i) ≡ a)
      → repeated (map f (up_to m) ++ drop m l) m n a ≡ map f (up_to (m + n)) ++ drop (m + n) l
  unfolding repeated
  made_alike zero h e = let z : m + 0 ≡ m = omega arith in rw z
  made_alike (suc n) h e =
      let z : m + n + 1 ≡ m + suc n = omega arith in
      ap (λ (r : List A). set r (m + n) a) (made_alike n (omega arith) (λ i q. e i (omega arith)))
      ∙ ap (set (map f (up_to (m + n)) ++ drop (m + n) l) (m + n)) (sym (e n (omega arith)))
      ∙ made_more f l (m + n) d (omega arith)
      ∙ ap (λ (k : ℕ). map f (up_to k) ++ drop k l) z
