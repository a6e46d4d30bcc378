-- Laws of a record: totals; what a sound record has; its pieces, and the part from a piece on.
use Prim.Native.Nat.{ℕ, zero, suc, ◌+◌, ◌-◌, ◌*◌, ◌≤◌, ◌<◌}
use native.Mathlib.Nat.{suc-mul, zero-mul, add-mul, mul-le-mul_right}
use native.Mathlib.Omega.{arith}
use mathlib.Core.Path.{◌≡◌, refl, sym, ap, ◌∙◌}
use mathlib.Core.List.{List, [], ◌∷◌, ◌++◌}
use mathlib.Core.Bool.{Bool, true, false}
use borrow.Author.Tests.{eqb-true, eq-eqb, leb-true, le-leb, ltb-true, ltb-false}
use lib.Dec.{eqb, leb, ltb}
use lib.ListN.{length, take, drop, get_or, replicate, length-append, length-replicate, length-drop}
use lib.Seq.{drop-drop, drop-append-add, take_all}
use lib.IntN.{ℤ}
use Rattle.std.specs.Prelude.{sum}
use Rattle.std.proofs.lemmas.List.Sums.{sum_by-cons}
use Rattle.pattern.specs.Slots.{all}
use Rattle.pattern.specs.Distance.{Sample}
use Rattle.pattern.proofs.ListLaws.{take_more}
use Rattle.pattern.proofs.SoundLaws.{both}
use Rattle.record.specs.Record.{ticks_of, pieces_of, sample_at, total, value_in_range, record_sound}
use Rattle.record.proofs.ListLaws.{all_drop}

-- ---- totals

pub total_is : (ds : List ℕ) → total ds ≡ sum ds
unfolding total
total_is [] = refl
total_is (d ∷ ds) = rw (sum_by-cons (λ (n : ℕ). n) d ds) (ap (◌+◌ d) (total_is ds))

pub total-append : (a b : List ℕ) → total (a ++ b) ≡ total a + total b
unfolding total
total-append [] b = omega arith
total-append (x ∷ a) b = omega (arith, total-append a b)

-- one duration more, as a loop counts
pub total-more : (ds : List ℕ) (i : ℕ) → i < length ds → total (take (i + 1) ds) ≡ total (take i ds) + get_or ds i 0
unfolding total
total-more ds i h =
    rw (take_more i ds 0 h) (total-append (take i ds) (get_or ds i 0 ∷ []) ∙ omega arith)

-- a time before the end lies in a piece
pub before-end : (ds : List ℕ) (begin i u : ℕ) → begin < total ds → begin ≡ total (take i ds) + u → i < length ds
before-end ds begin i u h e = by (ltb i (length ds)) refl
  where
    by : (t : Bool) → ltb i (length ds) ≡ t → i < length ds
    by true k = ltb-true i (length ds) k
    by false k = let a = ap total (take_all i ds (ltb-false i (length ds) k)) in absurd (omega arith)

-- ---- places of samples among the values

pub sample-within : (i m n : ℕ) → i < m → i * n + n ≤ m * n
sample-within i m n h = rw (← suc-mul i n) (mul-le-mul_right n h)

-- the part of the values that is a piece's sample
pub part-sample : (n i : ℕ) (vs : List ℤ) → take (i * n + n - i * n) (drop (i * n) vs) ≡ sample_at n vs i
unfolding sample_at
part-sample n i vs = let e : i * n + n - i * n ≡ n = omega arith in rw e

-- ---- a sound record

pub record Parts (n : ℕ) (ds : List ℕ) (vs : List ℤ) : Type 0 where
  pub few : length ds ≤ 4096
  pub lasting : all (leb 1) ds ≡ true
  pub short : total ds ≤ 2147483647
  pub values : all value_in_range vs ≡ true
  pub agree : length vs ≡ length ds * n

pub parts : (n : ℕ) (ds : List ℕ) (vs : List ℤ) → record_sound n ds vs ≡ true → Parts n ds vs
unfolding record_sound
parts n ds vs e =
    let a = both _ _ e in
    let b = both _ _ a.0 in
    let c = both _ _ b.0 in
    let d = both _ _ c.0 in
    record {
      few = leb-true _ _ d.0;
      lasting = d.1;
      short = leb-true _ _ c.1;
      values = b.1;
      agree = eqb-true _ _ a.1;
    }

-- a piece has a tick, and so has what is read past the last
pub lasts-at : (ds : List ℕ) (i : ℕ) → all (leb 1) ds ≡ true → 0 < get_or ds i 1
lasts-at [] i e = omega arith
lasts-at (d ∷ ds) zero e = leb-true 1 d (both (leb 1 d) (all (leb 1) ds) e).0
lasts-at (d ∷ ds) (suc i) e = lasts-at ds i (both (leb 1 d) (all (leb 1) ds) e).1

-- ---- pieces

module _ (n : ℕ) where
  pub length-ticks : (ds : List ℕ) (vs : List ℤ) → length (ticks_of (pieces_of n ds vs)) ≡ total ds
  unfolding ticks_of pieces_of total
  length-ticks [] vs = refl
  length-ticks (d ∷ ds) vs =
      length-append (replicate d (take n vs)) (ticks_of (pieces_of n ds (drop n vs)))
      ∙ rw (length-replicate d (take n vs), length-ticks ds (drop n vs))

  -- the pieces from a piece on
  pub drop_pieces : (i : ℕ) (ds : List ℕ) (vs : List ℤ) → drop i (pieces_of n ds vs) ≡ pieces_of n (drop i ds) (drop (i * n) vs)
  unfolding pieces_of
  drop_pieces zero ds vs = rw (zero-mul n)
  drop_pieces (suc i) [] vs = refl
  drop_pieces (suc i) (d ∷ ds) vs =
      drop_pieces i ds (drop n vs) ∙ ap (pieces_of n (drop i ds)) (drop-drop (i * n) n vs ∙ ap (λ (k : ℕ). drop k vs) shift)
    where
      shift : n + i * n ≡ suc i * n
      shift = omega (arith, suc-mul i n)

  pub piece-at : (i : ℕ) (ds : List ℕ) (vs : List ℤ) → i < length ds
      → drop i (pieces_of n ds vs) ≡ record { duration = get_or ds i 0; sample = sample_at n vs i } ∷ drop (suc i) (pieces_of n ds vs)
  unfolding pieces_of sample_at
  piece-at i [] vs h = absurd (omega arith)
  piece-at zero (d ∷ ds) vs h = rw (zero-mul n)
  piece-at (suc i) (d ∷ ds) vs h =
      piece-at i ds (drop n vs) (omega arith)
      ∙ ap (λ (s : Sample). record { duration = get_or ds i 0; sample = take n s } ∷ drop (suc i) (pieces_of n ds (drop n vs)))
      (drop-drop (i * n) n vs ∙ ap (λ (k : ℕ). drop k vs) shift)
    where
      shift : n + i * n ≡ suc i * n
      shift = omega (arith, suc-mul i n)

-- ---- the part of a record from a piece on

total-drop : (i : ℕ) (ds : List ℕ) → total (drop i ds) ≤ total ds
unfolding total
total-drop zero ds = omega arith
total-drop (suc i) [] = omega arith
total-drop (suc i) (d ∷ ds) = omega (arith, total-drop i ds)

pub part_sound : (n i : ℕ) (ds : List ℕ) (vs : List ℤ) → record_sound n ds vs ≡ true → i ≤ length ds → record_sound n (drop i ds) (drop (i * n) vs) ≡ true
unfolding record_sound
part_sound n i ds vs e h =
    let k = parts n ds vs e in
    let g = k.agree in
    let f = k.few in
    let r : i + (length ds - i) ≡ length ds = omega arith in
    let m : i * n + (length ds - i) * n ≡ length ds * n = sym (add-mul i (length ds - i) n) ∙ ap (λ (j : ℕ). j * n) r in
    let few : leb (length (drop i ds)) 4096 ≡ true = le-leb (length (drop i ds)) 4096 (omega (arith, length-drop i ds)) in
    let short : leb (total (drop i ds)) 2147483647 ≡ true = le-leb (total (drop i ds)) 2147483647 (let s = k.short in omega (arith, total-drop i ds)) in
    let rest : length (drop (i * n) vs) ≡ length (drop i ds) * n = rw (length-drop (i * n) vs, length-drop i ds) (omega arith) in
    let agree : eqb (length (drop (i * n) vs)) (length (drop i ds) * n) ≡ true = eq-eqb (length (drop (i * n) vs)) (length (drop i ds) * n) rest in
    rw (few, all_drop (leb 1) i ds k.lasting, short, all_drop value_in_range (i * n) vs k.values, agree)

pub ticks-from : (n i : ℕ) (ds : List ℕ) (vs : List ℤ) → i ≤ length ds → drop (total (take i ds)) (ticks_of (pieces_of n ds vs)) ≡ ticks_of (drop i (pieces_of n ds vs))
unfolding total ticks_of pieces_of
ticks-from n zero ds vs h = refl
ticks-from n (suc i) [] vs h = absurd (omega arith)
ticks-from n (suc i) (d ∷ ds) vs h =
    let s = take n vs in
    let t = ticks_of (pieces_of n ds (drop n vs)) in
    ap (λ (k : ℕ). drop (k + total (take i ds)) (replicate d s ++ t)) (sym (length-replicate d s))
    ∙ drop-append-add (replicate d s) t (total (take i ds))
    ∙ ticks-from n i ds (drop n vs) (omega arith)
