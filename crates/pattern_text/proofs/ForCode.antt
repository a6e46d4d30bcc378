-- Laws for code: a number that cannot wrap, and arrays that are filled in place.
use Prim.Native.Nat.{ℕ, suc, ◌+◌, ◌-◌, ◌*◌, ◌≤◌, ◌<◌, min}
use mathlib.Core.Path.{◌≡◌, refl, sym, ◌∙◌}
use mathlib.Core.List.{List, [], ◌∷◌, ◌++◌, append_assoc}
use native.Mathlib.Omega.{arith}
use lib.Dec.{leb}
use lib.ListN.{length, set, replicate, length-append}
use lib.Seq.{set-append_seam}
use borrow.Author.Tests.{leb-true, leb-false}
use Rattle.pattern_text.specs.Bytes.{Bytes}
use Rattle.pattern_text.specs.Numeral.{value_from}
use Rattle.pattern_text.specs.Text.{pad}
use Rattle.pattern_text.proofs.Tools.{by-test}

-- ---- a value that is held at a cap before more digits follow is in the end the same, up to the cap

value_grows : (v : ℕ) (b : Bytes) → v ≤ value_from v b
unfolding value_from
value_grows v [] = omega arith
value_grows v (c ∷ cs) = omega (arith, value_grows (v * 10 + (c - 48)) cs)

pub value-held : (k v : ℕ) (b : Bytes) → min k (value_from (min k v) b) ≡ min k (value_from v b)
value-held k v b = by-test (leb v k)
    (λ t. let h = leb-true v k t in let m : min k v ≡ v = omega arith in rw m refl)
    (λ t. let h = leb-false v k t in let m : min k v ≡ k = omega arith in rw m (omega (arith, value_grows k b, value_grows v b)))

-- ---- one slot more in use

pub pad_snoc : {A : Type 0} (size : ℕ) (u x : A) (xs : List A) → length xs < size → pad size u (xs ++ (x ∷ [])) ≡ set (pad size u xs) (length xs) x
unfolding pad
pad_snoc size u x xs h =
    let n : size - length xs ≡ suc (size - length (xs ++ (x ∷ []))) = rw (length-append xs (x ∷ [])) (omega arith) in
    rw n (append_assoc xs (x ∷ []) (replicate (size - length (xs ++ (x ∷ []))) u) ∙ sym (set-append_seam xs u (replicate (size - length (xs ++ (x ∷ []))) u) x))
