-- A sound record's book: a stretch of a piece in it, and its samples.
use Prim.Native.Nat.{ℕ, suc, ◌+◌, ◌-◌, ◌*◌, ◌≤◌, ◌<◌}
use native.Mathlib.Nat.{suc-mul}
use native.Mathlib.Omega.{arith}
use mathlib.Core.Path.{◌≡◌, refl, sym, ap, subst, ◌∙◌}
use mathlib.Core.List.{List, [], ◌∷◌, ◌++◌, append_assoc}
use mathlib.Core.Bool.{Bool, true, false}
use borrow.Author.Tests.{ltb-true, ltb-false}
use lib.Dec.{ltb}
use lib.ListN.{length, take, drop, get_or, replicate, length-append, length-replicate, length-drop, length-take, get_or-replicate, replicate-append-replicate, take-append-drop, get_or-append}
use lib.Seq.{get_or-append-add}
use lib.IntN.{ℤ}
use Rattle.pattern.specs.declared.Pattern.{Pattern}
use Rattle.pattern.specs.Slots.{all}
use Rattle.pattern.specs.Distance.{Sample}
use Rattle.record.specs.Record.{Book, ticks_of, pieces_of, book_of, sample_at, total, value_in_range}
use Rattle.record.proofs.ListLaws.{all_take, all_drop}
use Rattle.record.proofs.RecordLaws.{length-ticks, piece-at, ticks-from, total-append}
use Rattle.monitor.proofs.PieceViews.{longer}

abbrev Told : ℕ → Sample → Type 0
Told n s = (length s ≡ n) × (all value_in_range s ≡ true)

-- every tick of a sound record has a value for each channel, in range
pub fine-tick : (n : ℕ) (ds : List ℕ) (vs : List ℤ) → length vs ≡ length ds * n → all value_in_range vs ≡ true → (i : ℕ) → i < total ds
    → Told n (get_or (ticks_of (pieces_of n ds vs)) i [])
unfolding ticks_of pieces_of total
fine-tick n [] vs agree values i l = absurd (omega arith)
fine-tick n (d ∷ ds) vs agree values i l =
    by (ltb i d) refl
    (fine-tick n ds (drop n vs) (let q = suc-mul (length ds) n in let t = length-drop n vs in omega arith) (all_drop value_in_range n vs values) (i - d))
  where
    long : length vs ≡ n + length ds * n
    long = agree ∙ suc-mul (length ds) n ∙ omega arith

    tail : Book
    tail = ticks_of (pieces_of n ds (drop n vs))

    by : (x : Bool) → ltb i d ≡ x → (i - d < total ds → Told n (get_or tail (i - d) [])) → Told n (get_or (replicate d (take n vs) ++ tail) i [])
    by true e r =
        let k = ltb-true i d e in
        let q = length-replicate d (take n vs) in
        subst (Told n) (sym (get_or-append (replicate d (take n vs)) tail [] i (omega arith) ∙ get_or-replicate d i (take n vs) [] k))
        ((let t = length-take n vs in omega arith), all_take value_in_range n vs values)
    by false e f =
        let k = ltb-false i d e in
        let z : length (replicate d (take n vs)) + (i - d) ≡ i = let r = length-replicate d (take n vs) in omega arith in
        subst (λ (j : ℕ). Told n (get_or (replicate d (take n vs) ++ tail) j [])) z
        (subst (Told n) (sym (get_or-append-add (replicate d (take n vs)) tail (i - d) [])) (f (omega arith)))

module _ (p : Pattern) (n : ℕ) (ds : List ℕ) (vs : List ℤ) where
  abbrev pub B : Book
  B = book_of n ds vs

  -- where a piece begins
  abbrev pub start : ℕ → ℕ
  start i = total (take i ds)

  pub book-long : length B ≡ total ds
  unfolding book_of
  book-long = length-ticks n ds vs

  pub start-low : (i : ℕ) → start i ≤ total ds
  start-low i = let e = ap total (take-append-drop i ds) in let q = total-append (take i ds) (drop i ds) in omega arith

  -- the ticks before `gone` ticks of piece i, and those after d more
  abbrev pub front : (i gone : ℕ) → Book
  front i gone = take (start i) B ++ replicate gone (sample_at n vs i)

  abbrev pub rest : (i past : ℕ) → Book
  rest i past = replicate (get_or ds i 0 - past) (sample_at n vs i) ++ ticks_of (drop (suc i) (pieces_of n ds vs))

  pub front_long : (i gone : ℕ) → length (front i gone) ≡ start i + gone
  front_long i gone =
      length-append (take (start i) B) (replicate gone (sample_at n vs i))
      ∙ (let a = length-take (start i) B in let r = length-replicate gone (sample_at n vs i) in let l = start-low i in let b = book-long in omega arith)

  pub split : (i gone d : ℕ) → i < length ds → gone + d ≤ get_or ds i 0 → longer p (front i gone) d (sample_at n vs i) ++ rest i (gone + d) ≡ B
  unfolding book_of ticks_of
  split i gone d h k =
      let x = sample_at n vs i in
      let tail = ticks_of (drop (suc i) (pieces_of n ds vs)) in
      let left = get_or ds i 0 - (gone + d) in
      let whole : gone + (d + left) ≡ get_or ds i 0 = omega arith in
      let piece : replicate gone x ++ (replicate d x ++ (replicate left x ++ tail)) ≡ replicate (get_or ds i 0) x ++ tail =
      ap (λ (q : Book). replicate gone x ++ q) (sym (append_assoc (replicate d x) (replicate left x) tail) ∙ ap (λ (q : Book). q ++ tail) (replicate-append-replicate d left x))
      ∙ sym (append_assoc (replicate gone x) (replicate (d + left) x) tail)
      ∙ ap (λ (q : Book). q ++ tail) (replicate-append-replicate gone (d + left) x)
      ∙ ap (λ (m : ℕ). replicate m x ++ tail) whole in
      let on : drop (start i) B ≡ replicate (get_or ds i 0) x ++ tail =
      ticks-from n i ds vs (omega arith) ∙ ap ticks_of (piece-at n i ds vs h) in
      append_assoc (front i gone) (replicate d x) (replicate left x ++ tail)
      ∙ append_assoc (take (start i) B) (replicate gone x) (replicate d x ++ (replicate left x ++ tail))
      ∙ ap (λ (q : Book). take (start i) B ++ q) (piece ∙ sym on)
      ∙ take-append-drop (start i) B
