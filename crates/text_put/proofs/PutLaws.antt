-- Bytes put one after the other.
use Prim.Native.Nat.{ℕ, zero, suc, ◌+◌, ◌-◌, ◌/◌, ◌%◌, ◌≤◌, ◌<◌, min}
use mathlib.Core.Path.{◌≡◌, refl, sym, ap, ◌∙◌}
use mathlib.Core.List.{List, [], ◌∷◌, ◌++◌, append_assoc, append-nil}
use native.Mathlib.Omega.{arith}
use native.Mathlib.Numerals.{add-one, unary_clauses}
use native.Mathlib.Nat.{add-zero, suc-add, zero-sub, suc-sub-suc}
use lib.ListN.{length, take, drop, set, get_or, length-append, length-take, length-drop, take-append-drop, drop_of_length-le}
use lib.Seq.{take_all, take-nil, drop-nil, set_split}
use Rattle.pattern.proofs.ListLaws.{take-in_use, take_more}
use Rattle.pattern_text.specs.Bytes.{Bytes}
use Rattle.pattern_text.specs.Form.{write_many}
use Rattle.pattern_text.specs.Numeral.{decimal}
use Rattle.pattern_text.proofs.NumeralLaws.{decimal-small, decimal_large}
use Rattle.std.specs.Borrow.{MutBor}
use Rattle.text_put.specs.declared.Writer.{Writer}
use Rattle.text_put.specs.Put.{fitting, put_at, Put, Begins, Puts}

-- ---- the buffer after a put, byte by byte

nothing : (at : ℕ) (xs : Bytes) → put_at [] at xs ≡ []
unfolding put_at fitting
nothing at xs = simp (zero-sub, take-nil, drop-nil)

behind : (x : ℕ) (b : Bytes) (at : ℕ) (xs : Bytes) → put_at (x ∷ b) (suc at) xs ≡ x ∷ put_at b at xs
unfolding put_at fitting
behind x b at xs = rw (suc-add at (length xs), suc-sub-suc)

first : (x y : ℕ) (b xs : Bytes) → put_at (x ∷ b) 0 (y ∷ xs) ≡ y ∷ put_at b 0 xs
unfolding put_at fitting
first x y b xs = simp unary_clauses

put-empty : (b : Bytes) (at : ℕ) → put_at b at [] ≡ b
unfolding put_at fitting
put-empty b at = simp (take-nil, unary_clauses) (take-append-drop at b)

-- how much fits
fits : (b : Bytes) (at : ℕ) (xs : Bytes) → length (fitting b at xs) ≡ min (length b - at) (length xs)
unfolding fitting
fits b at xs = length-take (length b - at) xs

-- ---- what stands in the buffer

same-long : (b : Bytes) (at : ℕ) (xs : Bytes) → length (put_at b at xs) ≡ length b
unfolding put_at fitting
same-long b at xs = simp (length-append, length-take, length-drop) (omega arith)

front : (b : Bytes) (at : ℕ) (xs : Bytes) → take (at + min (length b - at) (length xs)) (put_at b at xs) ≡ take (length b) (take at b ++ xs)
front [] at xs = simp (nothing, take-nil)
front (x ∷ b) (suc at) xs = simp (unary_clauses, suc-add, behind) (ap (◌∷◌ x) (front b at xs))
front (x ∷ b) zero [] = simp unary_clauses
front (x ∷ b) zero (y ∷ xs) = simp (unary_clauses, first) (ap (◌∷◌ y) (simp unary_clauses at (front b zero xs)))

rest : (b : Bytes) (at : ℕ) (xs : Bytes) → drop (at + min (length b - at) (length xs)) (put_at b at xs) ≡ drop (at + min (length b - at) (length xs)) b
rest [] at xs = simp nothing
rest (x ∷ b) (suc at) xs = simp (unary_clauses, suc-add, behind) (rest b at xs)
rest (x ∷ b) zero [] = simp put-empty
rest (x ∷ b) zero (y ∷ xs) = simp (unary_clauses, first) (simp unary_clauses at (rest b zero xs))

module _ {b b' : Bytes} {at n : ℕ} {xs : Bytes} (p : Put b b' at n xs) where
  -- as long as before
  pub put-long : length b' ≡ length b
  put-long = ap length p.buffer ∙ same-long b at xs

  -- a position inside the buffer stays inside
  pub put-inside : at ≤ length b → n ≤ length b
  put-inside h = let e = p.position in omega (arith, fits b at xs)

  -- up to `next`: what stood before `at`, and then xs, cut at the buffer's end
  pub put-text : take n b' ≡ take (length b) (take at b ++ xs)
  put-text = rw (p.position, p.buffer, fits) (front b at xs)

  -- from there on: what stood there
  pub put_rest : drop n b' ≡ drop n b
  put_rest = rw (p.position, p.buffer, fits) (rest b at xs)

-- ---- one put after the other

pub put-none : (b : Bytes) (at : ℕ) → Put b b at at []
put-none b at = record { buffer = sym (put-empty b at); position = rw fits (omega arith) }

put-twice : (b : Bytes) (at : ℕ) (xs ys : Bytes) → put_at (put_at b at xs) (at + min (length b - at) (length xs)) ys ≡ put_at b at (xs ++ ys)
put-twice [] at xs ys = simp nothing
put-twice (x ∷ b) (suc at) xs ys = simp (unary_clauses, suc-add, behind) (ap (◌∷◌ x) (put-twice b at xs ys))
put-twice (x ∷ b) zero [] ys = simp (put-empty, unary_clauses)
put-twice (x ∷ b) zero (y ∷ xs) ys = simp (unary_clauses, first, behind) (ap (◌∷◌ y) (simp unary_clauses at (put-twice b zero xs ys)))

pub put_then : {b b' b'' : Bytes} {at m n : ℕ} {xs ys : Bytes} → Put b b' at m xs → Put b' b'' m n ys → Put b b'' at n (xs ++ ys)
put_then {b} {b'} {b''} {at} {m} {n} {xs} {ys} p q =
    record {
      buffer = q.buffer ∙ rw (p.buffer, p.position, fits) (put-twice b at xs ys);
      position =
          let e = p.position in
          let f = q.position in
          omega (arith, put-long p, fits b at xs, fits b' m ys, fits b at (xs ++ ys), length-append xs ys);
    }

pub put_one : (b : Bytes) (at x : ℕ) → at < length b → Put b (set b at x) at (at + 1) (x ∷ [])
unfolding put_at fitting
put_one b at x h =
    let whole : take (length b - at) (x ∷ []) ≡ x ∷ [] = take_all (length b - at) (x ∷ []) (omega arith) in
    record { buffer = rw (whole, add-one) (set_split b at x h); position = rw whole refl }

pub put_full : (b : Bytes) (at x : ℕ) → length b ≤ at → Put b b at at (x ∷ [])
unfolding put_at fitting
put_full b at x h =
    let none : length b - at ≡ 0 = omega arith in
    record {
      buffer = rw (take_all at b h, none, drop_of_length-le b {i = at + 1} (omega arith)) (sym (append-nil b));
      position = rw (none, add-zero) refl;
    }

-- ---- a list of bytes, one after the other
pub put_next : {b b' b'' : Bytes} {at m n : ℕ} (xs : Bytes) (i : ℕ) → i < length xs → Put b b' at m (take i xs) → Put b' b'' m n (get_or xs i 0 ∷ []) → Put b b'' at n (take (i + 1) xs)
put_next xs i h p q = rw (take_more i xs 0 h) (put_then p q)

pub put_all : {b b' : Bytes} {at n : ℕ} (xs : Bytes) (i : ℕ) → length xs ≤ i → Put b b' at n (take i xs) → Put b b' at n xs
put_all xs i h p = rw (take_all i xs h) at p

-- ---- what a writer puts

pub puts_none : (w : Writer) → Puts w w []
puts_none w = record { same = refl; put = put-none _ _ }

pub puts_then : {a b c : Writer} {xs ys : Bytes} → Puts a b xs → Puts b c ys → Puts a c (xs ++ ys)
puts_then p q = record { same = q.same ∙ p.same; put = put_then p.put q.put }

-- the first i bytes, and one more
pub puts_next : {a b c : Writer} (xs : Bytes) (i : ℕ) → i < length xs → Puts a b (take i xs) → Puts b c (get_or xs i 0 ∷ []) → Puts a c (take (i + 1) xs)
puts_next xs i h p q = rw (take_more i xs 0 h) (puts_then p q)

-- what stands in the buffer once the writer, which began at its front, is done with it
pub put_whole : {lent : MutBor (List ℕ)} {w w' : Writer} {after xs : Bytes} → Begins lent w → Puts w w' xs → (lent.ghost_name ≡ w'.text.ghost_name → after ≡ w'.text.now) → Put lent.now after 0 w'.at xs
put_whole b p back = let same = sym (p.same ∙ b.same) in rw (← back same) at (rw (b.text, b.front) at p.put)

-- values one after the other: the first i, and one more
module _ {A : Type 0} (f : A → Bytes) where
  many_snoc : (xs : List A) (a : A) → write_many f (xs ++ (a ∷ [])) ≡ write_many f xs ++ f a
  unfolding write_many
  many_snoc [] a = append-nil (f a)
  many_snoc (x ∷ xs) a = ap (◌++◌ (f x)) (many_snoc xs a) ∙ sym (append_assoc (f x) (write_many f xs) (f a))

  pub many-none : (w : Writer) (xs : List A) → Puts w w (write_many f (take 0 xs))
  unfolding write_many
  many-none w xs = puts_none w

  pub many-next : {a b c : Writer} (xs : List A) (i : ℕ) (d : A) → i < length xs → Puts a b (write_many f (take i xs)) → Puts b c (f (get_or xs i d)) → Puts a c (write_many f (take (i + 1) xs))
  many-next xs i d h p q = rw (take_more i xs d h, many_snoc) (puts_then p q)

  -- as many as an array has slots are all that its count names
  pub many-all : {b b' : Bytes} {at n : ℕ} (xs : List A) (i count size : ℕ) → length xs ≡ size → i ≡ min count size → Put b b' at n (write_many f (take i xs)) → Put b b' at n (write_many f (take count xs))
  many-all xs i count size l e p = rw (take-in_use count size xs l) at (rw e at p)

-- ---- a number
pub put_last : {a b : Writer} (k : ℕ) → k < 10 → Puts a b ((48 + k % 10) ∷ []) → Puts a b (decimal k)
put_last k h p = let e : k % 10 ≡ k = omega arith in rw decimal-small (rw e at p)

pub put_more : {a b c : Writer} (k : ℕ) → 10 ≤ k → Puts a b (decimal (k / 10)) → Puts b c ((48 + k % 10) ∷ []) → Puts a c (decimal k)
put_more k h p q = rw decimal_large (puts_then p q)
