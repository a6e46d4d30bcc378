-- What a slice that holds a state may go by, and the slice once a state was written into it.
use Prim.Native.Nat.{ℕ, ◌+◌, ◌≤◌, ◌<◌}
use native.Mathlib.Omega.{arith}
use native.Mathlib.Numerals.{add-one}
use mathlib.Core.Path.{◌≡◌, refl, sym, ap, subst, ◌∙◌}
use mathlib.Core.List.{List, [], ◌∷◌, ◌++◌}
use mathlib.Core.Bool.{Bool, true, false, cond, ◌&&◌, and-false}
use borrow.Author.Tests.{leb-true, le-leb}
use lib.Dec.{leb}
use lib.ListN.{length, take, drop, get_or, set, take-append-drop, length-append, length-take, length-drop}
use lib.Seq.{paste, paste-suc, take_all, take_at, get_or-take, get_or-drop}
use lib.IntN.{ℤ, pos}
use lib.Signed.{pos-nat_abs}
use Rattle.pattern.specs.Slots.{all}
use Rattle.pattern.proofs.SoundLaws.{both}
use Rattle.std.specs.Prelude.{Some, None}
use Rattle.record.proofs.ListLaws.{all-at}
use Rattle.monitor.specs.declared.State.{State}
use Rattle.state_slice.specs.Slice.{is_ticks, is_value, last_in, holds_state, state_in, held_state, with_state}
use Rattle.state_slice.specs.Claims.{HeldIsState, WrittenIsRead, ReadIsWritten, LengthKept}
use Rattle.state_slice.proofs.Entries.{ticks-sign, ticks-fits, is-ticks}

pub record Holds (l : List ℤ) : Type 0 where
  pub long : 9 ≤ length l
  pub ticks : is_ticks (get_or l 0 (pos 0)) ≡ true
  pub values : all is_value (last_in l) ≡ true

pub holds : (l : List ℤ) → holds_state l ≡ true → Holds l
unfolding holds_state
holds l e =
    let h = both (leb 9 (length l) && is_ticks (get_or l 0 (pos 0))) (all is_value (last_in l)) e in
    let k = both (leb 9 (length l)) (is_ticks (get_or l 0 (pos 0))) h.0 in
    record { long = leb-true 9 (length l) k.0; ticks = k.1; values = h.1 }

-- ---- the state that a slice holds, or none

-- the values, by the slice's entries
pub value_at : (l : List ℤ) (i : ℕ) → i < 8 → get_or (last_in l) i (pos 0) ≡ get_or l (i + 1) (pos 0)
value_at l i h = let e : 1 + i ≡ i + 1 = omega arith in rw (get_or-take 8 (drop 1 l) i (pos 0) h, get_or-drop 1 l i (pos 0), e)

pub short : (l : List ℤ) → leb 9 (length l) ≡ false → None ≡ held_state l
unfolding holds_state
short l e = rw e

pub no_ticks : (l : List ℤ) → is_ticks (get_or l 0 (pos 0)) ≡ false → None ≡ held_state l
unfolding holds_state
no_ticks l e = rw (e, and-false (leb 9 (length l)))

pub no_value : (l : List ℤ) (i : ℕ) → 9 ≤ length l → i < 8 → is_value (get_or l (i + 1) (pos 0)) ≡ false → None ≡ held_state l
unfolding holds_state
no_value l i h low e = by (all is_value (last_in l)) refl
  where
    by : (t : Bool) → all is_value (last_in l) ≡ t → None ≡ held_state l
    by true k =
        let d = length-drop 1 l in
        let n : length (last_in l) ≡ 8 = length-take 8 (drop 1 l) ∙ omega arith in
        let v : is_value (get_or l (i + 1) (pos 0)) ≡ true = rw (value_at l i low) at (all-at is_value (last_in l) i (pos 0) k (omega arith)) in
        cc
    by false k = rw (k, and-false (leb 9 (length l) && is_ticks (get_or l 0 (pos 0))))

pub held : (l : List ℤ) → 9 ≤ length l → is_ticks (get_or l 0 (pos 0)) ≡ true → all is_value (last_in l) ≡ true → held_state l ≡ Some (state_in l)
unfolding holds_state
held l h t v = rw (le-leb 9 (length l) h, t, v)

-- and what an answer says of the slice
pub held-is : (l : List ℤ) (s : State) → Some s ≡ held_state l → (holds_state l ≡ true) × (s ≡ state_in l)
held-is l s e = by (holds_state l) e
  where
    by : (t : Bool) → Some s ≡ cond t (Some (state_in l)) None → (t ≡ true) × (s ≡ state_in l)
    by true k = (refl, cc)
    by false k = cc

pub none-held : (l : List ℤ) → None ≡ held_state l → holds_state l ≡ false
none-held l e = by (holds_state l) e
  where
    by : (t : Bool) → None ≡ cond t (Some (state_in l)) None → t ≡ false
    by true k = cc
    by false k = refl

-- ---- a slice once a state was stored

-- the ticks stored, and then the values, one after the other
pub stored : (l : List ℤ) (t : ℤ) (vs : List ℤ) → 9 ≤ length l → length vs ≡ 8 → paste (set l 0 t) 1 vs 8 ≡ t ∷ (vs ++ drop 9 l)
stored [] t vs h e = absurd (omega arith)
stored (x ∷ l) t vs h e = rw (take_all 8 vs (omega arith))

-- a loop that stores s, element by element, over d behind its first element
pub stored-behind : (d s : List ℤ) (k : ℕ) (z : ℤ) → k + 1 < length d → k < length s → set (paste d 1 s k) (k + 1) (get_or s k z) ≡ paste d 1 s (k + 1)
stored-behind d s k z h l =
    let e : 1 + k ≡ k + 1 = omega arith in
    subst (λ (j : ℕ). set (paste d 1 s k) j (get_or s k z) ≡ paste d 1 s (k + 1)) e
    (paste-suc d 1 s k z (omega arith) l ∙ ap (paste d 1 s) (sym (add-one k)))

-- ---- the claims

pub held-is-state : HeldIsState
held-is-state l e =
    let h = holds l e in
    let k = h.long in
    let d = length-drop 1 l in
    let f = (ticks-fits (get_or l 0 (pos 0)) h.ticks).fits in
    record { ticks = omega arith; count = length-take 8 (drop 1 l) ∙ omega arith; values = h.values }

pub written-is-read : WrittenIsRead
unfolding holds_state
written-is-read s l k =
    let e : take 8 (s.last ++ drop 9 l) ≡ s.last = take_at s.last (drop 9 l) 8 k.count in
    let n : length (s.last ++ drop 9 l) ≡ 8 + length (drop 9 l) = length-append s.last (drop 9 l) ∙ rw k.count in
    let long : 9 ≤ length (with_state s l) = omega arith in
    (rw (le-leb 9 (length (with_state s l)) long, is-ticks s.ticks k.ticks, e, k.values), rw e)

pub read-is-written : ReadIsWritten
read-is-written l e = by l (holds l e)
  where
    by : (m : List ℤ) → Holds m → with_state (state_in m) m ≡ m
    by [] h = let k = h.long in absurd (omega arith)
    by (x ∷ m) h = rw (pos-nat_abs x (ticks-sign x h.ticks), take-append-drop 8 m)

pub length-kept : LengthKept
length-kept s l e h =
    let a = length-append s.last (drop 9 l) in
    let d = length-drop 9 l in
    omega arith
