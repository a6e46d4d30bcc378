-- What is left after some bytes at an offset is left at another one, that much further.
use Rattle.std.proofs.Common.{◌≡◌, ℕ, ◌-◌, ◌≤◌, ◌<◌, List, ◌++◌, length, take, drop, sym, ap, ◌∙◌, arith}
use mathlib.Core.List.{append_assoc}
use lib.ListN.{length-append, length-drop, take-append-drop}
use lib.Seq.{drop_at}

module _ (t : List ℕ) (at : ℕ) (w r : List ℕ) (e : drop at t ≡ w ++ r) where
  whole : t ≡ (take at t ++ w) ++ r
  whole = sym (take-append-drop at t) ∙ ap (◌++◌ (take at t)) e ∙ sym (append_assoc (take at t) w r)

  pub rest_within : length r ≤ length t
  rest_within = omega (arith, ap length whole, length-append (take at t ++ w) r)

  pub rest_is : drop (length t - length r) t ≡ r
  rest_is =
      let size : length (take at t ++ w) ≡ length t - length r = omega (arith, ap length whole, length-append (take at t ++ w) r) in
      ap (drop (length t - length r)) whole ∙ drop_at (take at t ++ w) r (length t - length r) size

  -- further on than before, where some bytes were read
  pub rest_further : 0 < length w → at < length t - length r
  rest_further h = omega (arith, ap length e, length-append w r, length-drop at t)
