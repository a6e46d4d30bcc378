-- Tests and lists: what the proofs share.
use Prim.Native.Nat.{ℕ}
use mathlib.Core.Path.{◌≡◌, refl}
use mathlib.Core.List.{List, [], ◌∷◌, ◌++◌}
use mathlib.Core.Bool.{Bool, true, false, ◌&&◌}
use native.Mathlib.Omega.{arith}
use Rattle.pattern.specs.Slots.{all}
use Rattle.pattern_text.specs.Bytes.{Bytes, got, broken}

-- two different constructors
pub never {ℓ} : {X : Type ℓ} {A : Type 0} {a : A} {r : Bytes} → broken ≡ got a r → X
never e = let z : ◌≡◌ {A = ℕ} 0 1 = cc in absurd (omega arith)

pub both : (a b : Bool) → (a && b) ≡ true → (a ≡ true) × (b ≡ true)
both true b e = (refl, e)
both false b e = let z : ◌≡◌ {A = ℕ} 0 1 = cc in absurd (omega arith)

pub three : (a b c : Bool) → (a && b && c) ≡ true → (a ≡ true) × (b ≡ true) × (c ≡ true)
three a b c e =
    let k = both (a && b) c e in
    let l = both a b k.0 in
    (l.0, l.1, k.1)

pub four : (a b c d : Bool) → (a && b && c && d) ≡ true → (a ≡ true) × (b ≡ true) × (c ≡ true) × (d ≡ true)
four a b c d e =
    let k = both (a && b && c) d e in
    let l = three a b c k.0 in
    (l.0, l.1, l.2, k.1)

pub in_both : {a b : Bool} → a ≡ true → b ≡ true → (a && b) ≡ true
in_both p q = rw (p, q) refl

pub all_append : {A : Type 0} (f : A → Bool) (xs ys : List A) → all f xs ≡ true → all f ys ≡ true → all f (xs ++ ys) ≡ true
all_append f [] ys p q = q
all_append f (x ∷ xs) ys p q = rw (both (f x) (all f xs) p).0 (all_append f xs ys (both (f x) (all f xs) p).1 q)

-- one outcome of a test or the other
pub by-test {ℓ} : {X : Type ℓ} (t : Bool) → (t ≡ true → X) → (t ≡ false → X) → X
by-test true f g = f refl
by-test false f g = g refl
