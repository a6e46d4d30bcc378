-- A word of a list of words, from one value on.
use Rattle.std.proofs.Common.{◌≡◌, ℕ, suc, ◌+◌, ◌≤◌, ◌<◌, List, ◌∷◌, length, get_or, drop, refl, sym, ap, ◌∙◌}
use lib.Seq.{drop-cons}
use lib.ListN.{drop_of_length-le}
use native.Mathlib.Numerals.{add-one}
use Prim.Native.String.{String}
use Rattle.pattern_text.specs.Bytes.{Bytes, bytes, got, broken}
use Rattle.pattern_text.specs.Form.{strip, first_of}

module _ {A : Type 0} (word : A → String) (l : List A) (i : ℕ) (b : Bytes) where
  pub first_none : length l ≤ i → broken ≡ first_of word (drop i l) b
  unfolding first_of
  first_none h = rw (drop_of_length-le l {i = i} h) refl

  module _ (a : A) (at : a ≡ get_or l i a) (h : i < length l) where
    rest_is : drop i l ≡ a ∷ drop (i + 1) l
    rest_is = rw add-one (drop-cons l i a h ∙ ap (λ (x : A). x ∷ drop (suc i) l) (sym at))

    module _ (w : Bytes) (is : w ≡ bytes (word a)) where
      pub first_here : {r : Bytes} → got tt r ≡ strip w b → got a r ≡ first_of word (drop i l) b
      unfolding first_of
      first_here e = rw (rest_is, ← is, ← e) refl

      pub first_next : broken ≡ strip w b → first_of word (drop i l) b ≡ first_of word (drop (i + 1) l) b
      unfolding first_of
      first_next e = rw (rest_is, ← is, ← e) refl
