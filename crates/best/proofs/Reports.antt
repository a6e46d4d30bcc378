-- The reports that a loop over a stretch's ticks has still to look at.
use Rattle.std.proofs.Common.{◌≡◌, ◌∙◌, sym, ap, ℕ, ◌+◌, ◌-◌, ◌≤◌, ◌<◌, List, ◌∷◌, drop, get_or, ℤ, pos, arith}
use Rattle.std.proofs.lemmas.List.{get_or-drop, drop-drop}

-- Those of the ticks before `at` are behind.
abbrev pub Left : (n count : ℕ) → (scores : List ℤ) → (lengths : List ℕ) → (at end : ℕ) → List ℤ → List ℕ → Type 0
Left n count scores lengths at end ss ls =
    (n ≤ at) × (at ≤ end) × (end ≡ n + count) × (ss ≡ drop (at - n) scores) × (ls ≡ drop (at - n) lengths)

-- the first of what is left of a list, and what is left then
next : {A : Type 0} (xs : List A) (i j : ℕ) (d x : A) (left rest : List A) → left ≡ drop i xs → left ≡ x ∷ rest → j ≡ i + 1 → (x ≡ get_or xs i d) × (rest ≡ drop j xs)
next xs i j d x left rest is first more =
    let none : i + 0 ≡ i = omega arith in (
      ap (λ l. get_or l 0 d) (sym first ∙ is) ∙ get_or-drop i xs 0 d ∙ ap (λ k. get_or xs k d) none,
      ap (drop 1) (sym first ∙ is) ∙ drop-drop 1 i xs ∙ ap (λ k. drop k xs) (sym more),
    )

pub one-more : (n count : ℕ) (scores : List ℤ) (lengths : List ℕ) (at end at' end' : ℕ) (ss ss' : List ℤ) (ls ls' : List ℕ) (x : ℤ) (y : ℕ)
    → Left n count scores lengths at end ss ls → end' ≡ end → 0 < end - at → at' ≡ at + 1 → ss ≡ x ∷ ss' → ls ≡ y ∷ ls'
    → Left n count scores lengths at' end' ss' ls' × (x ≡ get_or scores (at - n) (pos 0)) × (y ≡ get_or lengths (at - n) 0)
one-more n count scores lengths at end at' end' ss ss' ls ls' x y left same some more first second =
    let a = left.0 in
    let e : at' - n ≡ (at - n) + 1 = omega arith in
    let s = next scores (at - n) (at' - n) (pos 0) x ss ss' left.3 first e in
    let l = next lengths (at - n) (at' - n) 0 y ls ls' left.4 second e in
    ((omega arith, omega arith, same ∙ left.2, s.1, l.1), s.0, l.0)
